-- What a GET is answered, row by row of the message table: DATA of its POST are bytes, so that the reply is a frame that has them.
-- Assumes nothing.
use Prim.Native.Nat.{ℕ, ◌≤◌, ◌<◌}
use native.Mathlib.Omega.{arith}
use mathlib.Core.Path.{◌≡◌, refl, ◌∙◌, ap, subst}
use mathlib.Core.Bool.{Bool, true, false}
use mathlib.Core.List.{List, [], ◌∷◌}
use lib.ListN.{length, get_or, drop}
use Rattle.meaning.specs.Bytes.{Bytes}
use Rattle.serial.specs.Serial.{serial_of}
use Rattle.frame.specs.Layout.{message, source, data_of}
use Rattle.board.specs.Groups.{Groups}
use Rattle.board.specs.declared.whole.Node.{Node}
use Rattle.messages.specs.Fields.{byte_at, bit}
use Rattle.messages.specs.Outcome.{content_of, posts}
use Rattle.messages.specs.Motor.{position_row, position_data, status_row, status_data}
use Rattle.messages.specs.Ips.{percent_or}
use Rattle.messages.specs.Locking.{lock_row, lock_data}
use Rattle.messages.specs.Addresses.{address_row}
use Rattle.messages.specs.Identity.{label_row, version_of, version_row, serial_row}
use Rattle.messages.proofs.Messages.{at_row}
use Rattle.messages.proofs.FirstBytes.{the_whole}
use Rattle.messages.proofs.Contents.{content_is, all_bytes}
use Rattle.node.specs.Frames.{turn_of}
use Rattle.promises.specs.Typed.{Typed, TypedTable}
use Rattle.promises.specs.BoardParts.{ip_of}
use Rattle.promises.specs.Serials.{SerialRules}
use Rattle.promises.specs.Demand2.Codes.{Accepted, ip_rows, group_rows}
use Rattle.promises.specs.Demand2.Turns.{Posted}
use Rattle.promises.specs.Demand2.Effects.{Arrives}
use Rattle.promises.specs.Demand2.Answers.{one_if, Answers}
use Rattle.promises.proofs.BoardInRange.{is_sound_lem}
use Rattle.promises.proofs.Serials.{serials}
use Rattle.promises.proofs.Typed.{for_its_laws}
use Rattle.promises.proofs.Turns.{came_to, posted}
use Rattle.promises.proofs.Codes.{ip_at_is, accepted_index, ip_by, group_by}
use Rattle.board.specs.Favourites.{Ip}
use Rattle.std.specs.Prelude.{Some, None}

bit_is : (flag : Bool) → bit flag ≡ one_if flag
bit_is true = refl
bit_is false = refl

module _ (n : Node) (g : Groups) (b : List ℕ) (a : Arrives n g b) (t : Typed n) (u : TypedTable g) where
  abbrev content : List ℕ
  content = data_of b

  -- DATA of a POST of at most 20 bytes.
  told : (m : ℕ) (d : List ℕ) → came_to n g b a ≡ posts n m d → m < 255 → length d ≤ 20 → Posted n b (turn_of n g b) m d
  told m d e named few =
      posted n g b a m d e named few
      (subst Bytes (ap content_of e ∙ content_is d) (all_bytes n (is_sound_lem n a.in_range_lem) (for_its_laws n t) g u (source b) (message b) content))

  -- 25h
  ip_told : message b ≡ 0x25 → Accepted (ip_rows content) → (x : Ip) → ip_of n.favourites (byte_at content 0) ≡ x
      → Posted n b (turn_of n g b) 0x35 (byte_at content 0 ∷ 0xFF ∷ 0xFF ∷ percent_or x n.settings.travel ∷ [])
  ip_told m none x e =
      let (least, most) = accepted_index content none in
      told 0x35 (byte_at content 0 ∷ 0xFF ∷ 0xFF ∷ percent_or x n.settings.travel ∷ [])
      ((ip_by n g b a m).accepted none
      ∙ ap (λ (y : Ip). posts n 0x35 (byte_at content 0 ∷ 0xFF ∷ 0xFF ∷ percent_or y n.settings.travel ∷ []))
      (ip_at_is n.favourites (byte_at content 0) least most ∙ e))
      (omega arith) (omega arith)

  -- 0Ch, 0Eh, 26h and 40h
  position_told_lem : message b ≡ 0x0C → Posted n b (turn_of n g b) 0x0D (position_data n)
  unfolding position_row
  position_told_lem m = told 0x0D (position_data n) (at_row n g (source b) (message b) content 0x0C m) (omega arith) (omega arith)

  status_told : message b ≡ 0x0E → Posted n b (turn_of n g b) 0x0F (status_data n)
  unfolding status_row
  status_told m = told 0x0F (status_data n) (at_row n g (source b) (message b) content 0x0E m) (omega arith) (omega arith)

  lock_told : message b ≡ 0x26 → Posted n b (turn_of n g b) 0x36 (lock_data n)
  unfolding lock_row
  lock_told m = told 0x36 (lock_data n) (at_row n g (source b) (message b) content 0x26 m) (omega arith) (omega arith)

  address_told : message b ≡ 0x40 → Posted n b (turn_of n g b) 0x60 []
  unfolding address_row
  address_told m = told 0x60 [] (at_row n g (source b) (message b) content 0x40 m) (omega arith) (omega arith)

  -- 41h
  group_told : message b ≡ 0x41 → Accepted (group_rows 1 content) → (low middle high : ℕ)
      → get_or g (byte_at content 0) [] ≡ low ∷ middle ∷ high ∷ []
      → Posted n b (turn_of n g b) 0x61 (byte_at content 0 ∷ low ∷ middle ∷ high ∷ [])
  group_told m none low middle high e =
      told 0x61 (byte_at content 0 ∷ low ∷ middle ∷ high ∷ [])
      ((group_by n g b a m).accepted none
      ∙ ap (λ (entry : List ℕ). posts n 0x61 (byte_at content 0 ∷ get_or entry 0 0 ∷ get_or entry 1 0 ∷ get_or entry 2 0 ∷ [])) e)
      (omega arith) (omega arith)

  -- 45h, 74h and 4Ch
  label_told : message b ≡ 0x45 → Posted n b (turn_of n g b) 0x65 n.label
  unfolding label_row
  label_told m =
      let sixteen = t.sixteen_characters in
      told 0x65 n.label
      (at_row n g (source b) (message b) content 0x45 m ∙ ap (posts n 0x65) (the_whole 16 n.label sixteen)) (omega arith) (omega arith)

  version_told_lem : message b ≡ 0x74 → Posted n b (turn_of n g b) 0x75 (version_of n.settings.plate)
  unfolding version_row
  version_told_lem m = told 0x75 (version_of n.settings.plate) (at_row n g (source b) (message b) content 0x74 m) (omega arith) (omega arith)

  abbrev id : ℕ
  id = n.settings.id.0

  abbrev origin : List ℕ
  origin = n.settings.plate.origin

  six : length origin ≡ 6
  six = t.settings_fit.six_characters

  serial_told_lem : message b ≡ 0x4C
      → (serial : List ℕ) × (SerialRules id serial × ((drop 6 serial ≡ origin) × Posted n b (turn_of n g b) 0x6C serial))
  unfolding serial_row
  serial_told_lem m =
      let right = serials.a_serial_is_right_where_its_origin_is id origin six
      ∙ (serials.origins_are_told origin).1 a.in_range_lem.settings_in_range.maker_year_and_week in (
        serial_of id origin,
        (
          (serials.right_serials_are_told id (serial_of id origin)).0 right,
          (
            serials.the_origin_is_read_back id origin,
            told 0x6C (serial_of id origin)
                (at_row n g (source b) (message b) content 0x4C m ∙ ap (λ (o : List ℕ). posts n 0x6C (serial_of id o)) (the_whole 6 origin six))
                (omega arith) (omega (arith, six)),
          ),
        ),
      )

  pub answers : Answers n g b (turn_of n g b)
  answers =
      record {
        position_is_told = position_told_lem;
        status_is_told = status_told;
        an_ip_is_told = λ m none p. ip_told m none (Some p);
        an_unset_ip_is_told_as_ffh = λ m none. ip_told m none None;
        the_lock_is_told = λ m. rw (bit_is n.lock.locked, bit_is n.lock.saved) at (lock_told m);
        the_address_is_told = address_told;
        a_group_is_told = group_told;
        the_label_is_told = label_told;
        the_version_is_told = version_told_lem;
        the_serial_number_is_told = serial_told_lem;
      }
