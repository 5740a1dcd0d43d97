-- The header, DATA behind it, and the checksum of both behind that.
-- Assumes nothing.
use Rattle.std.proofs.Common.{
  ◌≡◌,
  refl,
  ◌∙◌,
  ap,
  ℕ,
  ◌+◌,
  ◌-◌,
  ◌/◌,
  ◌%◌,
  ◌≤◌,
  List,
  [],
  ◌∷◌,
  ◌++◌,
  map,
  length,
  take,
  drop,
  arith,
}
use Rattle.std.proofs.Math.ListN.{length-map}
use Rattle.std.proofs.Math.Seq.{take_at}
use Rattle.frame.specs.Layout.{inverted, sum_of}
use Rattle.frame.specs.Writing.{over, raw_header, frame_of}
use Rattle.frame.specs.declared.header.Header.{Header}
use Rattle.frame.proofs.Over.{on_top}
use Rattle.frame.proofs.writing.lay.Goals as goal

module _ (h : Header) (d part : List ℕ) (room : 11 + length d ≤ length part) where
  abbrev body : List ℕ
  body = map inverted (raw_header h (length d)) ++ map inverted d

  length_body : length body ≡ 9 + length d
  length_body = simp length-map (omega arith)

  -- the frame is laid where its three parts are
  sealing : (whole third : List ℕ) (total : ℕ) → whole ≡ over body part → total ≡ sum_of (take (9 + length d) whole)
      → third ≡ over (total / 256 ∷ total % 256 ∷ []) (take (length whole - (9 + length d)) (drop (9 + length d) whole))
      → take (9 + length d) whole ++ (third ++ drop (length whole - (9 + length d)) (drop (9 + length d) whole)) ≡ over (frame_of h d) part
  sealing whole third total e t p =
      let sum_is : total ≡ sum_of body = t ∙ rw (e, take_at body (drop (length body) part) (9 + length d) length_body) in
      on_top part body (total / 256 ∷ total % 256 ∷ []) whole third (9 + length d) length_body (omega arith) e p
      ∙ ap (λ (s : ℕ). over (body ++ (s / 256 ∷ s % 256 ∷ [])) part) sum_is

pub returns : goal.returns
returns c =
    let x = c.args in
    let header = c.lay_inverted.ensures ∙ ap (λ (r : List ℕ). over (map inverted r) x.part.now) c.raw_header-raw.ensures in
    let first = c.lay_inverted.new.part in
    let second = c.lay_inverted-2.new.part in
    sealing x.header x.content.now x.part.now (omega arith)
    (take 9 first ++ (second ++ drop (length first - 9) (drop 9 first)))
    c.lay_checksum.new.part c.sum-total.result
    (on_top x.part.now (map inverted (raw_header x.header (length x.content.now))) (map inverted x.content.now) first second 9
    refl (omega arith) header c.lay_inverted-2.ensures)
    c.sum-total.ensures c.lay_checksum.ensures
