-- What an entry of the list says of what was spelled.
-- Assumes nothing.
use Rattle.std.specs.Prelude.{ℕ, Bool, false, length, Option, Some, None}
use mathlib.Core.Path.{◌≡◌, refl, ◌∙◌, sym, ap}
use Rattle.meaning.specs.Cases.{zero_is_one}
use Rattle.rts.specs.Spelling.{Spelled, entry_of}
use Rattle.rts.specs.Table.{data_of, in_range}
use Rattle.rts.specs.declared.message.Message.{Message}

pub record Listed (s : Spelled) (count : ℕ) (fitting : Bool) (m : Message) : Type 0 where
  pub is_spelled : s ≡ Some m
  pub its_count : length (data_of m) ≡ count
  pub its_ranges : (in_range m).holds ≡ fitting

-- The parts of an entry; what is said where there is none does not matter.
abbrev count_in : Option (ℕ × Bool × Message) → ℕ
count_in (Some (count, fitting, m)) = count
count_in None = 0

abbrev ranges_in : Option (ℕ × Bool × Message) → Bool
ranges_in (Some (count, fitting, m)) = fitting
ranges_in None = false

abbrev message_in : Option (ℕ × Bool × Message) → Spelled
message_in (Some (count, fitting, m)) = Some m
message_in None = None

pub listed : (s : Spelled) (count : ℕ) (fitting : Bool) (m : Message) → entry_of s ≡ Some (count, fitting, m) → Listed s count fitting m
listed (Some n) count fitting m e =
    let same : Some n ≡ Some m = ap message_in e in
    record {
      is_spelled = same;
      its_count = ap (λ (x : Spelled). count_in (entry_of x)) (sym same) ∙ ap count_in e;
      its_ranges = ap (λ (x : Spelled). ranges_in (entry_of x)) (sym same) ∙ ap ranges_in e;
    }
listed None count fitting m e = absurd (zero_is_one cc)

pub not_listed : (s : Spelled) → entry_of s ≡ None → s ≡ None
not_listed (Some m) e = absurd (zero_is_one cc)
not_listed None e = refl
