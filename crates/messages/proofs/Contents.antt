-- What is said has at most 20 bytes of DATA; of numbers that fit their types, each of them is a byte.
-- Assumes nothing.
use Prim.Native.Nat.{ℕ, zero, suc, ◌+◌, ◌/◌, ◌%◌, ◌≤◌, ◌<◌}
use native.Mathlib.Omega.{arith}
use native.Mathlib.Nat.{le_of_suc-le-suc}
use mathlib.Core.Path.{◌≡◌, refl, sym, subst}
use mathlib.Core.Bool.{Bool, true, false}
use mathlib.Core.List.{List, [], ◌∷◌}
use borrow.Author.Tests.{leb-true, ltb-true, ltb-false}
use lib.Dec.{leb, ltb}
use lib.ListN.{length, get_or, take, replicate, drop}
use lib.Seq.{take_at}
use Rattle.meaning.specs.Bytes.{Bytes}
use Rattle.meaning.specs.Cases.{both}
use Rattle.meaning.specs.Choice.{either}
use Rattle.meaning.specs.Every.{each_passes}
use Rattle.meaning.specs.Lists.{get_d_past}
use Rattle.serial.specs.Serial.{an_origin, is_origin}
use Rattle.serial.proofs.Laws.{bytes as serial_is_bytes}
use Rattle.frame.specs.declared.address.Address.{Address}
use Rattle.travel.specs.Units.{ip}
use Rattle.travel.specs.Position.{percent_of_pulse, percent_at_most_100}
use Rattle.travel.specs.declared.Pulse.{Pulse}
use Rattle.board.specs.Drive.{is_running}
use Rattle.board.specs.Favourites.{ip_at, is_at, is_number, first_at, reported_ip, Ip}
use Rattle.board.specs.Groups.{Groups, Change}
use Rattle.board.specs.Label.{is_character, is_label}
use Rattle.board.specs.Node.{sound, status_of, with_label}
use Rattle.board.specs.Typed.{Typed, TypedTable}
use Rattle.board.specs.declared.whole.Node.{Node}
use Rattle.board.proofs.Within.{position_within}
use Rattle.board.proofs.Sound.{settings_facts, plate_facts, parts_of}
use Rattle.messages.specs.Code.{code_of}
use Rattle.messages.specs.declared.code.Code.{Code}
use Rattle.messages.specs.declared.outcome.Outcome.{Outcome}
use Rattle.messages.specs.Fields.{byte_at, bit}
use Rattle.messages.specs.Outcome.{in_twenty, content_of, acts, posts, refuses}
use Rattle.messages.specs.Motor.{
  stop_codes,
  stopped,
  stop_row,
  aim_in,
  target_of,
  move_codes,
  moved,
  move_row,
  position_data,
  position_row,
  status_data,
  status_row,
}
use Rattle.messages.specs.Ips.{order_in, ordered, set_ip_codes, keeping_ips, set_ip_row, percent_or, ip_codes, ip_data, ip_row}
use Rattle.messages.specs.Locking.{set_lock_codes, locked_by, set_lock_row, lock_data, lock_row}
use Rattle.messages.specs.Addresses.{address_row, group_codes, group_data, group_row, put_in, set_group_row}
use Rattle.messages.specs.Identity.{
  first_of,
  label_in,
  label_row,
  set_label_codes,
  set_label_row,
  version_of,
  version_row,
  serial_data,
  serial_row,
}
use Rattle.messages.specs.Table.{outcome_of}
use Rattle.messages.proofs.FirstBytes.{so_many, bytes_of_bytes}
use Rattle.messages.proofs.Messages.{every_message, or_refused}
use Rattle.std.specs.Prelude.{Some, None}

-- ---- what is done alone, and what is told
-- What holds of every outcome that is carried out, of every refusal and of what each GET tells holds of whatever a message comes to.
pub record Told (P : Outcome → Type 0) (n : Node) (groups : Groups) (d : List ℕ) : Type 0 where
  pub done : (after : Node) (change : Change) → P (acts after change)
  pub refused : (code : Code) → P (refuses n code)
  pub position : P (posts n 0x0D (position_data n))
  pub status : P (posts n 0x0F (status_data n))
  pub ip : is_number (ip (byte_at d 0)) ≡ true → P (posts n 0x35 (ip_data n (ip (byte_at d 0))))
  pub lock : P (posts n 0x36 (lock_data n))
  pub address : P (posts n 0x60 [])
  pub group : byte_at d 0 ≤ 15 → P (posts n 0x61 (group_data groups (byte_at d 0)))
  pub label : P (posts n 0x65 (label_in n.label))
  pub version : P (posts n 0x75 (version_of n.settings.plate))
  pub serial : P (posts n 0x6C (serial_data n))

pub all_told : (P : Outcome → Type 0) (n : Node) (groups : Groups) (source : Address) (m : ℕ) (d : List ℕ)
    → Told P n groups d → P (outcome_of n groups source m d)
unfolding stop_row move_row set_ip_row ip_row set_lock_row group_row set_group_row position_row status_row lock_row address_row label_row set_label_row version_row
    serial_row
all_told P n groups source m d t =
    every_message P n groups source m d
    (record {
      stop = or_refused P n t.refused (stop_codes n d) (stopped n) (λ p. t.done _ _);
      move = or_refused P n t.refused (move_codes n d (aim_in d)) (moved n (target_of n (aim_in d))) (λ p. t.done _ _);
      position = t.position;
      status = t.status;
      set_ip = or_refused P n t.refused (set_ip_codes n d (order_in d)) (keeping_ips n (ordered n (order_in d))) (λ p. t.done _ _);
      ip = or_refused P n t.refused (ip_codes d (ip (byte_at d 0))) (posts n 0x35 (ip_data n (ip (byte_at d 0)))) (λ p. t.ip p.1.0);
      set_lock =
          or_refused P n t.refused (set_lock_codes n d (byte_at d 0) (byte_at d 1)) (acts (locked_by n source (byte_at d 0) (byte_at d 1)) None)
          (λ p. t.done _ _);
      lock = t.lock;
      address = t.address;
      group = or_refused P n t.refused (group_codes 1 d (byte_at d 0)) (posts n 0x61 (group_data groups (byte_at d 0))) (λ p. t.group p.1.0);
      set_group =
          or_refused P n t.refused (group_codes 4 d (byte_at d 0)) (acts n (put_in (byte_at d 0) d))
          (λ p. t.done _ _);
      label = t.label;
      set_label = or_refused P n t.refused (set_label_codes d) (acts (with_label n (label_in d)) None) (λ p. t.done _ _);
      version = t.version;
      serial = t.serial;
      unknown = t.refused Code.UnknownMessage;
    })

-- ---- the count
pub at_most_20_bytes : (n : Node) (groups : Groups) (source : Address) (m : ℕ) (d : List ℕ) → (outcome_of n groups source m d).count ≤ 20
at_most_20_bytes n groups source m d =
    all_told (λ (o : Outcome). o.count ≤ 20) n groups source m d
    (record {
      done = λ after change. omega arith;
      refused = λ code. omega arith;
      position = omega arith;
      status = omega arith;
      ip = λ e. omega arith;
      lock = omega arith;
      address = omega arith;
      group = λ e. omega arith;
      label = omega (arith, so_many 16 n.label);
      version = omega arith;
      serial = omega (arith, so_many 6 n.settings.plate.origin);
    })

-- ---- the bytes
pub content_is : (content : List ℕ) → take (length content) (in_twenty content) ≡ content
content_is content = take_at content (drop (length content) (replicate 20 0)) (length content) refl

pub no_bytes : Bytes []
no_bytes i h = absurd (omega arith)

pub one_more_byte : (x : ℕ) (l : List ℕ) → x < 256 → Bytes l → Bytes (x ∷ l)
one_more_byte x l h b zero g = h
one_more_byte x l h b (suc i) g = b i (le_of_suc-le-suc g)

pub code_fits : (code : Code) → code_of code < 256
code_fits Code.UnknownMessage = omega arith
code_fits Code.TooLittleData = omega arith
code_fits Code.OutOfRange = omega arith
code_fits Code.Locked = omega arith
code_fits Code.PriorityTooLow = omega arith
code_fits Code.Blocked = omega arith
code_fits Code.IpNotSet = omega arith

first_at_fits : (number : ℕ) (l : List Ip) (p : Pulse) → number + length l ≤ 256 → first_at number l p < 256
unfolding first_at
first_at_fits number [] p h = omega arith
first_at_fits number (s ∷ l) p h =
    either (λ (k : ℕ). k < 256) (is_at s p) (λ e. omega arith) (λ e. first_at_fits (suc number) l p (omega arith))

percent_fits : (p travel : Pulse) → (percent_of_pulse p travel).0 < 256
percent_fits p travel = omega (arith, percent_at_most_100 p travel)

percent_or_fits : (x : Ip) (travel : Pulse) → percent_or x travel < 256
percent_or_fits None travel = omega arith
percent_or_fits (Some p) travel = percent_fits p travel

bit_fits : (flag : Bool) → bit flag < 256
bit_fits flag = either (λ (k : ℕ). k < 256) flag (λ e. omega arith) (λ e. omega arith)

status_fits : (n : Node) → status_of n < 256
status_fits n =
    either (λ (k : ℕ). k < 256) n.lock.locked (λ e. omega arith) λ e.
    either (λ (k : ℕ). k < 256) n.drive.blocked (λ f. omega arith) λ f.
    either (λ (k : ℕ). k < 256) (is_running n.drive.motion) (λ g. omega arith) (λ g. omega arith)

character_fits : (label : List ℕ) → is_label label ≡ true → (i : ℕ) → byte_at label i < 256
character_fits label e i = by (ltb i (length label)) refl
  where
    by : (within : Bool) → ltb i (length label) ≡ within → byte_at label i < 256
    by true h =
        let c = each_passes is_character label 0 e i (ltb-true i (length label) h) in
        omega (arith, leb-true (byte_at label i) 0x7E (both (leb 0x20 (byte_at label i)) (leb (byte_at label i) 0x7E) c).1)
    by false h = omega (arith, get_d_past label i 0 (ltb-false i (length label) h))

origin_fits : (origin : List ℕ) → is_origin origin ≡ true → (i : ℕ) → i < 6 → byte_at origin i < 256
origin_fits origin e i h = at i h ((an_origin origin).is_fact e)
  where
    at : (i : ℕ) → i < 6 → (an_origin origin).fact → byte_at origin i < 256
    at zero h (maker, rest) = omega (arith, maker.1)
    at (suc zero) h (first, (maker, rest)) = omega (arith, maker.1)
    at (suc (suc zero)) h (first, (second, (year, rest))) = omega (arith, year.1)
    at (suc (suc (suc zero))) h (first, (second, (third, (year, rest)))) = omega (arith, year.1)
    at (suc (suc (suc (suc zero)))) h (first, (second, (third, (fourth, (tens, rest))))) = omega (arith, tens.1)
    at (suc (suc (suc (suc (suc zero))))) h (first, (second, (third, (fourth, (tens, (ones, rest)))))) = omega (arith, ones.1)
    at (suc (suc (suc (suc (suc (suc k)))))) h facts = absurd (omega arith)

-- DATA of four bytes.
four : (a b c d : ℕ) → a < 256 → b < 256 → c < 256 → d < 256 → Bytes (a ∷ b ∷ c ∷ d ∷ [])
four a b c d h i j k =
    one_more_byte a (b ∷ c ∷ d ∷ []) h (one_more_byte b (c ∷ d ∷ []) i (one_more_byte c (d ∷ []) j (one_more_byte d [] k no_bytes)))

module _ (n : Node) (s : sound n ≡ true) (t : Typed n) where
  position_bytes : Bytes (position_data n)
  position_bytes =
      let p = n.drive.position in
      let h = position_within n.settings.travel n.drive (parts_of n s).drive_within_lem in
      let found = reported_ip n.favourites p in
      let percent = (percent_of_pulse p n.settings.travel).0 in
      let e = t.sixteen_slots in
      one_more_byte (p.0 % 256) (p.0 / 256 ∷ percent ∷ 0xFF ∷ found ∷ []) (omega arith)
      (four (p.0 / 256) percent 0xFF found (omega (arith, t.settings_fit.travel_fits)) (percent_fits p n.settings.travel) (omega arith)
      (first_at_fits 1 n.favourites.slots p (omega arith)))

  lock_bytes : Bytes (lock_data n)
  lock_bytes =
      let a = n.lock.holder.0 in
      let priority = n.lock.priority in
      let saved = bit n.lock.saved in
      one_more_byte (bit n.lock.locked) (a % 256 ∷ a / 256 % 256 ∷ a / 65536 % 256 ∷ priority ∷ saved ∷ []) (bit_fits n.lock.locked)
      (one_more_byte (a % 256) (a / 256 % 256 ∷ a / 65536 % 256 ∷ priority ∷ saved ∷ []) (omega arith)
      (four (a / 256 % 256) (a / 65536 % 256) priority saved (omega arith) (omega arith) t.priority_fits (bit_fits n.lock.saved)))

  ip_bytes : (index : ℕ) → is_number (ip index) ≡ true → Bytes (ip_data n (ip index))
  ip_bytes index e =
      let most = leb-true index 16 (both (leb 1 index) (leb index 16) e).1 in
      four index 0xFF 0xFF (percent_or (ip_at n.favourites (ip index)) n.settings.travel)
      (omega arith) (omega arith) (omega arith) (percent_or_fits (ip_at n.favourites (ip index)) n.settings.travel)

  label_bytes : Bytes (label_in n.label)
  label_bytes = bytes_of_bytes 16 n.label (λ i h. character_fits n.label (parts_of n s).label_of_characters i)

  version_bytes : Bytes (version_of n.settings.plate)
  version_bytes =
      let p = n.settings.plate in
      let r = p.reference in
      let plate = plate_facts p (settings_facts n.settings (parts_of n s).settings_in_range).1.1.1.1 in
      one_more_byte (r % 256) (r / 256 % 256 ∷ r / 65536 % 256 ∷ p.letter ∷ p.number ∷ 0xFF ∷ []) (omega arith)
      (one_more_byte (r / 256 % 256) (r / 65536 % 256 ∷ p.letter ∷ p.number ∷ 0xFF ∷ []) (omega arith)
      (four (r / 65536 % 256) p.letter p.number 0xFF (omega arith) (omega (arith, plate.1.1.0)) t.settings_fit.number_fits
      (omega arith)))

  serial_bytes : Bytes (serial_data n)
  serial_bytes =
      let p = n.settings.plate in
      let plate = plate_facts p (settings_facts n.settings (parts_of n s).settings_in_range).1.1.1.1 in
      serial_is_bytes n.settings.id.0 (first_of 6 p.origin) (bytes_of_bytes 6 p.origin (origin_fits p.origin plate.1.1.1))

  told : (P : List ℕ → Type 0) (content : List ℕ) → P content → P (take (length content) (in_twenty content))
  told P content b = subst P (sym (content_is content)) b

  pub all_bytes : (groups : Groups) → TypedTable groups → (source : Address) (m : ℕ) (d : List ℕ) → Bytes (content_of (outcome_of n groups source m d))
  all_bytes groups g source m d =
      all_told (λ (o : Outcome). Bytes (content_of o)) n groups source m d
      (record {
        done = λ after change. told Bytes [] no_bytes;
        refused = λ code. told Bytes (code_of code ∷ []) (one_more_byte (code_of code) [] (code_fits code) no_bytes);
        position = told Bytes (position_data n) position_bytes;
        status =
            told Bytes (status_data n)
            (four (status_of n) n.drive.direction n.drive.source n.drive.cause (status_fits n) t.direction_fits t.source_fits
            t.cause_fits);
        ip = λ e. told Bytes (ip_data n (ip (byte_at d 0))) (ip_bytes (byte_at d 0) e);
        lock = told Bytes (lock_data n) lock_bytes;
        address = told Bytes [] no_bytes;
        group = λ e.
            let entry = get_or groups (byte_at d 0) [] in
            told Bytes (group_data groups (byte_at d 0))
            (four (byte_at d 0) (byte_at entry 0) (byte_at entry 1) (byte_at entry 2) (omega arith) (g (byte_at d 0) 0) (g (byte_at d 0) 1)
            (g (byte_at d 0) 2));
        label = told Bytes (label_in n.label) label_bytes;
        version = told Bytes (version_of n.settings.plate) version_bytes;
        serial = told Bytes (serial_data n) serial_bytes;
      })
