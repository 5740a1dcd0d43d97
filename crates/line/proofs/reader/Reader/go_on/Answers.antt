-- The bytes up to the one that ends the bundle all join, and that one ends it.
-- Assumes nothing.
use Rattle.std.proofs.Common.{◌≡◌, ℕ, ◌+◌, ◌-◌, ◌≤◌, ◌<◌, ◌≢◌, List, length, get_or, take, drop, false, ◌∙◌, sym, ap, arith}
use mathlib.Core.List.{foldl}
use Rattle.line.specs.Reader.{reader, joined, begun, stepped, no_bytes, ran, goes_on, ended_with, step_of, run_of}
use Rattle.line.specs.declared.reader.Reader.{Reader}
use Rattle.line.specs.declared.reader.Stepped.{Stepped}
use Rattle.line.proofs.Sound.{Sound, sound_facts, is_sound_lem, sound_all}
use Rattle.line.proofs.Running.{First, last_one, at-end, ended_stops, to_end, open_there}
use Rattle.line.proofs.Steps.{step-ends}
use Rattle.line.proofs.reader.Reader.go_on.Goals as goal
use Rattle.std.specs.Prelude.{Ok, None}

-- The bytes from the place to the end have joined the reader `r`, which is `laid` then.
module _ (r laid : Reader) (bytes silences : List ℕ) (alike : length bytes ≡ length silences) (place from end : ℕ) (sound : Sound r)
    (back : from ≤ end) (within : end ≤ length bytes) (first : First bytes silences alike r place from)
    (quiet : (k : ℕ) → from ≤ k → k < end → get_or silences k 0 < 30) (all : laid ≡ foldl joined r (take (end - place) (drop place bytes))) where
  goes : run_of r (drop place bytes) (drop place silences) place ≡ run_of laid (drop end bytes) (drop end silences) end
  goes =
      to_end bytes silences alike r place from end back within sound first quiet
      ∙ ap (λ (q : Reader). run_of q (drop end bytes) (drop end silences) end) (sym all)

  laid_sound : Sound laid
  laid_sound = rw all (sound_all r (take (end - place) (drop place bytes)) sound)

  is_open : end < length bytes → laid.count ≢ 0
  is_open h none = open_there bytes silences alike r place from end back within first h (sym (ap (λ (q : Reader). q.count) all) ∙ none)

  -- The byte at the end ends the bundle.
  ended_there : (next : Reader) (s : Stepped) → end < length bytes → 30 ≤ get_or silences end 0 → next ≡ begun (get_or bytes end 0)
      → s ≡ ended_with laid next → ran s (end + 1) ≡ run_of r (drop place bytes) (drop place silences) place
  ended_there next s h loud e f =
      let byte = get_or bytes end 0 in
      let silence = get_or silences end 0 in
      let ends : step_of laid byte silence ≡ s =
      step-ends laid byte silence (is_sound_lem laid laid_sound) loud ∙ ap (λ (q : Reader). ended_with laid q) (sym e) ∙ sym f in
      let stops : goes_on s.answer ≡ false = ap (λ (t : Stepped). goes_on t.answer) f ∙ ended_stops laid next (is_open h) in
      sym (goes ∙ last_one laid bytes silences end s h alike ends stops)

  -- No byte is left.
  over : (s : Stepped) → length bytes ≤ end → s ≡ stepped laid (Ok None) no_bytes
      → ran s end ≡ run_of r (drop place bytes) (drop place silences) place
  over s h e = ap (λ (t : Stepped). ran t end) e ∙ sym (goes ∙ at-end laid bytes silences end h)

pub returns-then-end-bytes : goal.returns-then-end-bytes
returns-then-end-bytes c =
    ended_there c.args.self (reader c.lay_all-count.new.kept c.lay_all-count.result) c.args.bytes.now c.args.silences.now (omega arith)
    c.args.place c.first_to_end_it-from.result c.bundle_end-end.result (sound_facts c.args.self (omega arith) c.requires.0) (omega arith)
    (omega arith) c.first_to_end_it-from.ensures.first c.bundle_end-end.ensures.quiet c.lay_all-count.ensures c.begun.result c.ended-stepped.result
    (omega arith) (c.bundle_end-end.ensures.loud (omega arith)) c.begun.ensures c.ended-stepped.ensures

pub returns : goal.returns
returns c =
    over c.args.self (reader c.lay_all-count.new.kept c.lay_all-count.result) c.args.bytes.now c.args.silences.now (omega arith)
    c.args.place c.first_to_end_it-from.result c.bundle_end-end.result (sound_facts c.args.self (omega arith) c.requires.0) (omega arith)
    (omega arith) c.first_to_end_it-from.ensures.first c.bundle_end-end.ensures.quiet c.lay_all-count.ensures c.answering-stepped.result
    (omega arith) c.answering-stepped.ensures
