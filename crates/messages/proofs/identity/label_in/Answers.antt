-- One place more holds one byte more of DATA.
-- Assumes nothing.
use Rattle.std.proofs.Common.{◌≡◌, refl, sym, ap, ◌∙◌, arith}
use Rattle.std.proofs.Math.ListN.{length-set}
use Rattle.std.proofs.Math.Seq.{take_all}
use Rattle.frame.specs.Layout.{data_of}
use Rattle.messages.specs.Identity.{first_of}
use Rattle.messages.proofs.FirstBytes.{one_more}
use Rattle.messages.proofs.identity.label_in.Goals as goal

pub loop-place-init : goal.loop-place-init
unfolding first_of
loop-place-init c = record { all_sixteen = refl; laid = refl }

pub loop-place-preserved : goal.loop-place-preserved
loop-place-preserved c =
    let d = data_of c.args.bundle.now in
    record {
      all_sixteen = simp length-set c.loop-place.invariant.all_sixteen;
      laid = one_more d c.loop-place.label c.loop-place.place c.data_byte.result (omega arith) c.data_byte.ensures c.loop-place.invariant.laid;
    }

pub returns : goal.returns
returns c =
    let d = data_of c.args.bundle.now in
    let label = c.loop-place.label in
    let place = c.loop-place.place in
    let all : place ≡ 16 = omega arith in
    sym (take_all place label (omega arith)) ∙ c.loop-place.invariant.laid ∙ ap (λ k. first_of k d) all
