-- Eight at a time and the last eight, or one by one.
-- Assumes nothing.
use Rattle.std.proofs.Common.{◌≡◌, refl, length-drop, ◌≤◌, ℕ, ◌∙◌, ap, rules, tests, arith, take, drop, length, ◌-◌, ◌/◌, List, Bool}
use Prim.Native.Nat.{min}
use mathlib.Core.Bool.{◌&&◌}
use lib.Dec.{eqb}
use lib.Seq.{take_all}
use Rattle.std.specs.List.{list_all}
use Rattle.std.specs.Simd.{first_chunks}
use Rattle.std.proofs.lemmas.Iterator.{YieldsList-from_slice}
use Rattle.std.proofs.lemmas.Iterator.Search.{all_from_yields_List}
use Rattle.line.specs.Reader.{all_zeros}
use Rattle.line.proofs.Zeros.{each_zero, from_within, eights_and_last}
use Rattle.line.proofs.beyond.are_zeros.Goals as goal

module _ (bytes rest : List ℕ) (from n : ℕ) (start : n ≡ min from (length bytes)) (cut : rest ≡ take (length bytes - n) (drop n bytes)) where
  rest_is : all_zeros rest ≡ all_zeros (drop from bytes)
  rest_is =
      ap all_zeros (cut ∙ take_all (length bytes - n) (drop n bytes) (simp length-drop (omega arith)))
      ∙ rw start (from_within bytes from)

  by_eights : (eights : List (List ℕ)) (last : List ℕ) (all final : Bool) → 8 ≤ length rest → eights ≡ first_chunks 8 (length rest / 8) rest
      → last ≡ drop (length rest - 8) rest → all ≡ list_all all_zeros eights → final ≡ all_zeros last
      → (all && final) ≡ all_zeros (drop from bytes)
  by_eights eights last all final h e l a f = rw (a, f, e, l) (eights_and_last rest h ∙ rest_is)

pub returns-then-all : goal.returns-then-all
returns-then-all c =
    let all = all_from_yields_List all_zeros _ _ c.all.result c.all.ensures.ran (YieldsList-from_slice c.as_chunks.result.0.now cc) (λ x b q k. search (rules, tests)) in
    let both = by_eights c.args.bytes.now _ c.args.from c.min.result c.min.ensures refl c.as_chunks.result.0.now c.in-Some.last.now c.all.result c.is_zero.result
    c.in-Some.ensures.cases.0 c.as_chunks.ensures.front c.in-Some.ensures.cases.1.same all c.is_zero.ensures in
    rw c.if-all.true at both

pub returns-else-all : goal.returns-else-all
returns-else-all c =
    let all = all_from_yields_List all_zeros _ _ c.all.result c.all.ensures.ran (YieldsList-from_slice c.as_chunks.result.0.now cc) (λ x b q k. search (rules, tests)) in
    let both = by_eights c.args.bytes.now _ c.args.from c.min.result c.min.ensures refl c.as_chunks.result.0.now c.in-Some.last.now c.all.result (all_zeros c.in-Some.last.now)
    c.in-Some.ensures.cases.0 c.as_chunks.ensures.front c.in-Some.ensures.cases.1.same all refl in
    c.if-all.false ∙ (rw c.if-all.false at both)

pub returns-in-None : goal.returns-in-None
returns-in-None c =
    let all = all_from_yields_List (λ byte. eqb byte 0) _ _ c.all-in-None.result c.all-in-None.ensures.ran (YieldsList-from_slice c.iter-in-None.result.rest.now cc) (λ x b q k. search (rules, tests)) in
    all ∙ each_zero c.iter-in-None.result.rest.now ∙ rest_is c.args.bytes.now c.iter-in-None.result.rest.now c.args.from c.min.result c.min.ensures c.iter-in-None.ensures.rest
