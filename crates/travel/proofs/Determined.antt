-- Each contract gives the whole result, so any two outcomes that it allows are equal.
-- Assumes nothing.
use mathlib.Core.Path.{sym, ◌∙◌}
use Rattle.meaning.specs.Determined.{Once}
use Rattle.travel.proofs.percent_of_pulse.Kinds as percent_of_pulse_kinds
use Rattle.travel.proofs.percent_of_pulse.Reads as percent_of_pulse_lem
use Rattle.travel.proofs.pulse_of_percent.Kinds as pulse_of_percent_kinds
use Rattle.travel.proofs.pulse_of_percent.Reads as pulse_of_percent_lem
use Rattle.travel.proofs.share_of.Kinds as share_of_kinds
use Rattle.travel.proofs.share_of.Reads as share_of

pub record Determined : Type 0 where
  pub percent_of_pulse_once : Once percent_of_pulse_kinds.ps percent_of_pulse_kinds.r percent_of_pulse_lem.Post
  pub pulse_of_percent_once : Once pulse_of_percent_kinds.ps pulse_of_percent_kinds.r pulse_of_percent_lem.Post
  pub share_of_once : Once share_of_kinds.ps share_of_kinds.r share_of.Post

pub determined : Determined
determined = record {
  percent_of_pulse_once = λ κs a x y s t p q. p ∙ sym q;
  pulse_of_percent_once = λ κs a x y s t p q. p ∙ sym q;
  share_of_once = λ κs a x y s t p q. p ∙ sym q;
}
