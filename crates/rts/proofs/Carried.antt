-- A bundle is read as a message exactly when it carries it; any other is refused by 1 to 6, 18, 16 or 15.
-- Assumes nothing.
use Prim.Native.Nat.{ℕ}
use mathlib.Core.Path.{◌≡◌, refl, ◌∙◌, sym, ap, ap₂}
use mathlib.Core.Logic.{◌↔◌, ⊎_elim}
use mathlib.Core.List.{List}
use lib.ListN.{length}
use Rattle.std.specs.Result.{result_unwrap_or}
use Rattle.meaning.specs.Cases.{zero_is_one}
use Rattle.meaning.specs.Tests.{holds_by}
use Rattle.meaning.specs.Tables.{no_row_applies, passed_or_answered}
use Rattle.refusal.specs.declared.Refusal.{Refusal}
use Rattle.frame.specs.Layout as frame
use Rattle.frame.specs.Reading.{IsFrame}
use Rattle.frame.proofs.Content as content
use Rattle.frame.proofs.Frames.{frame_is_read, frame_or_refused}
use Rattle.rts.specs.Envelope.{envelope_of}
use Rattle.rts.specs.Spelling.{spelled_by, Spelled}
use Rattle.rts.specs.Reading.{check_table, checked_by, listed, received_by, received_of, Carries, Received}
use Rattle.rts.specs.Fields.{four_of}
use Rattle.rts.specs.Table.{data_of, in_range}
use Rattle.rts.specs.declared.envelope.Envelope.{Envelope}
use Rattle.rts.specs.declared.message.Message.{Message}
use Rattle.rts.proofs.Spelling.{spelled_number, spelled_data, spells}
use Rattle.std.specs.Prelude.{Ok, Err, Some, None}

-- A refusal is no message.
abbrev IsRefused : Received → Type 0
IsRefused r = (refusal : Refusal) × (r ≡ Err refusal)

no_message : {r : Received} {e : Envelope} {m : Message} → IsRefused r → ¬ (r ≡ Ok (e, m))
no_message (refusal, refused) read = zero_is_one cc

module _ (b : List ℕ) where
  -- What a frame's MSG and DATA spell.
  abbrev spelling : Spelled
  spelling = spelled_by (frame.message b) (four_of (frame.data_of b))

  abbrev envelope : Envelope
  envelope = envelope_of (frame.header_of b)

  read_as_spelled : IsFrame b → received_of b ≡ listed envelope (frame.data_count b) spelling
  unfolding received_of
  read_as_spelled f = ap (received_by b) (frame_is_read b f)

  module _ (e : Envelope) (m : Message) where
    spelled_as_carried : Carries b e m → spelling ≡ Some m
    spelled_as_carried c =
        ap₂ (λ (n : ℕ) (d : List ℕ). spelled_by n (four_of d)) (sym c.says_its_number) (sym c.says_its_data) ∙ spells m

    pub carried_is_read : Carries b e m → received_of b ≡ Ok (e, m)
    carried_is_read c =
        let counted : frame.data_count b ≡ length (data_of m) = sym (content.length_data b) ∙ ap length (sym c.says_its_data) in
        read_as_spelled c.is_a_frame
        ∙ ap (listed envelope (frame.data_count b)) (spelled_as_carried c)
        ∙ no_row_applies (check_table (frame.data_count b) m) (Ok (envelope, m)) (counted, ((in_range m).is_fact c.in_range_lem, tt))
        ∙ ap (λ (x : Envelope). Ok (x, m)) (sym c.says_its_envelope)

    -- The rows passed over are the facts of what is carried.
    carried : IsFrame b → (n : Message) → spelling ≡ Some n → checked_by envelope (frame.data_count b) n ≡ Ok (e, m)
        → Carries b e m
    carried f n spelled read =
        ⊎_elim
        (λ passed.
        let answer = sym (no_row_applies (check_table (frame.data_count b) n) (Ok (envelope, n)) passed) ∙ read in
        let told : (envelope, n) ≡ (e, m) = ap (λ (r : Received). result_unwrap_or r (e, m)) answer in
        let same : n ≡ m = ap (λ (x : Envelope × Message). x.1) told in
        let as_m : spelling ≡ Some m = spelled ∙ ap Some same in
        let counted = content.length_data b ∙ passed.0 ∙ ap (λ (x : Message). length (data_of x)) same in
        record {
          is_a_frame = f;
          says_its_number = spelled_number (frame.message b) (frame.data_of b) m as_m;
          says_its_data =
              spelled_data (frame.message b) (frame.data_of b) m as_m counted;
          in_range_lem = ap (λ (x : Message). (in_range x).holds) (sym same) ∙ holds_by (in_range n) passed.1.0;
          says_its_envelope = sym (ap (λ (x : Envelope × Message). x.0) told);
        })
        (λ refused. absurd (no_message refused read))
        (passed_or_answered IsRefused (check_table (frame.data_count b) n) (Ok (envelope, n))
        ((Refusal.WrongDataCount, refl), ((Refusal.FieldOutOfRange, refl), tt)))

    from_spelling : IsFrame b → (s : Spelled) → spelling ≡ s
        → listed envelope (frame.data_count b) s ≡ Ok (e, m) → Carries b e m
    from_spelling f (Some n) spelled read = carried f n spelled read
    from_spelling f None spelled read = absurd (no_message (Refusal.UnlistedMessage, refl) read)

    pub read_is_carried : received_of b ≡ Ok (e, m) → Carries b e m
    unfolding received_of
    read_is_carried read =
        ⊎_elim (λ f. from_spelling f spelling refl (sym (read_as_spelled f) ∙ read))
        (λ (q, refused, _, _). absurd (no_message (q, ap (received_by b) refused) read))
        (frame_or_refused b)

    pub read_exactly_when : Carries b e m ↔ (received_of b ≡ Ok (e, m))
    read_exactly_when = (carried_is_read, read_is_carried)
