-- What happens to the motor and to the favourites leaves every pulse within the travel.
-- Assumes nothing.
use Prim.Native.Nat.{ℕ, zero, suc, ◌-◌, ◌≤◌}
use mathlib.Core.Path.{◌≡◌, refl}
use mathlib.Core.Bool.{true}
use mathlib.Core.List.{List, [], ◌∷◌, ◌++◌}
use borrow.Author.Tests.{le-leb, leb-true}
use lib.Dec.{eqb, leb}
use lib.ListN.{get_or, set}
use Rattle.meaning.specs.Cases.{both, and_so}
use Rattle.meaning.specs.Choice.{either}
use Rattle.travel.specs.Position.{pulse_of_percent, pulse_at_most_travel}
use Rattle.travel.specs.Share.{share_of}
use Rattle.travel.specs.Units.{ip}
use Rattle.travel.specs.declared.IpIndex.{IpIndex}
use Rattle.travel.specs.declared.Pulse.{Pulse}
use Rattle.board.specs.Drive.{moved_to, halted_from, halted, reached, at_pulse, blocked_by, unblocked, powered_up, motion_within, drive_within, Motion}
use Rattle.board.specs.Favourites.{is_number, ip_at, with_ip, shared_ip, shared_to, shared_out, no_favourites, ip_within, ips_within, Ip}
use Rattle.board.specs.declared.drive.Drive.{Drive}
use Rattle.board.specs.declared.favourites.Favourites.{Favourites}
use Rattle.std.specs.Prelude.{Some, None}

-- The motor.
module _ (travel : Pulse) (d : Drive) (w : drive_within travel d ≡ true) where
  pub position_within : d.position.0 ≤ travel.0
  position_within = leb-true d.position.0 travel.0 (both (leb d.position.0 travel.0) (motion_within travel d.motion) w).0

  motion_kept : motion_within travel d.motion ≡ true
  motion_kept = (both (leb d.position.0 travel.0) (motion_within travel d.motion) w).1

  stands : leb d.position.0 travel.0 ≡ true
  stands = le-leb d.position.0 travel.0 position_within

  pub moved_within : (to : Pulse) → to.0 ≤ travel.0 → drive_within travel (moved_to d to) ≡ true
  moved_within to h =
      either (λ (x : Drive). drive_within travel x ≡ true) (eqb d.position.0 to.0)
      (λ e. and_so (leb d.position.0 travel.0) true stands refl)
      (λ e. and_so (leb d.position.0 travel.0) (leb to.0 travel.0) stands (le-leb to.0 travel.0 h))

  halted_from_lem : (m : Motion) → drive_within travel (halted_from m d) ≡ true
  halted_from_lem None = w
  halted_from_lem (Some to) = and_so (leb d.position.0 travel.0) true stands refl

  pub halted_within : drive_within travel (halted d) ≡ true
  halted_within = halted_from_lem d.motion

  pub at_pulse_within : (p : Pulse) → p.0 ≤ travel.0 → drive_within travel (at_pulse d p) ≡ true
  at_pulse_within p h =
      either (λ (x : Drive). drive_within travel x ≡ true) (reached d.motion d.direction p)
      (λ e. and_so (leb p.0 travel.0) true (le-leb p.0 travel.0 h) refl)
      (λ e. and_so (leb p.0 travel.0) (motion_within travel d.motion) (le-leb p.0 travel.0 h) motion_kept)

  pub blocked_within : (cause : ℕ) → drive_within travel (blocked_by d cause) ≡ true
  blocked_within cause = and_so (leb d.position.0 travel.0) true stands refl

  pub unblocked_within : drive_within travel (unblocked d) ≡ true
  unblocked_within = w

  pub powered_up_within : drive_within travel (powered_up d) ≡ true
  powered_up_within = and_so (leb d.position.0 travel.0) true stands refl

-- The favourites.
module _ (travel : Pulse) where
  pub none_within : ips_within travel no_favourites.slots ≡ true
  unfolding ips_within
  none_within = refl

  at_within : (l : List Ip) (i : ℕ) → ips_within travel l ≡ true → ip_within travel (get_or l i None) ≡ true
  unfolding ips_within
  at_within [] i w = refl
  at_within (s ∷ l) zero w = (both (ip_within travel s) (ips_within travel l) w).0
  at_within (s ∷ l) (suc i) w = at_within l i (both (ip_within travel s) (ips_within travel l) w).1

  set_within : (l : List Ip) (i : ℕ) (x : Ip) → ip_within travel x ≡ true → ips_within travel l ≡ true → ips_within travel (set l i x) ≡ true
  unfolding ips_within
  set_within [] i x e w = refl
  set_within (s ∷ l) zero x e w = and_so (ip_within travel x) (ips_within travel l) e (both (ip_within travel s) (ips_within travel l) w).1
  set_within (s ∷ l) (suc i) x e w =
      let b = both (ip_within travel s) (ips_within travel l) w in
      and_so (ip_within travel s) (ips_within travel (set l i x)) b.0 (set_within l i x e b.1)

  joined_within : (l m : List Ip) → ips_within travel l ≡ true → ips_within travel m ≡ true → ips_within travel (l ++ m) ≡ true
  unfolding ips_within
  joined_within [] m v w = w
  joined_within (s ∷ l) m v w =
      let b = both (ip_within travel s) (ips_within travel l) v in
      and_so (ip_within travel s) (ips_within travel (l ++ m)) b.0 (joined_within l m b.1 w)

  share_within : (n : ℕ) (i : IpIndex) → ip_within travel (shared_ip n travel i) ≡ true
  share_within n i =
      either (λ (x : Ip). ip_within travel x ≡ true) (leb i.0 n)
      (λ e. le-leb (pulse_of_percent (share_of i n) travel).0 travel.0 (pulse_at_most_travel (share_of i n) travel))
      (λ e. refl)

  one_within : (s : Ip) → ip_within travel s ≡ true → ips_within travel (s ∷ []) ≡ true
  unfolding ips_within
  one_within s e = and_so (ip_within travel s) true e refl

  shares_within : (n k : ℕ) → ips_within travel (shared_to n travel k) ≡ true
  unfolding ips_within shared_to
  shares_within n zero = refl
  shares_within n (suc k) =
      joined_within (shared_to n travel k) (shared_ip n travel (ip (suc k)) ∷ []) (shares_within n k)
      (one_within (shared_ip n travel (ip (suc k))) (share_within n (ip (suc k))))

  pub shared_within : (n : ℕ) → ips_within travel (shared_out n travel).slots ≡ true
  shared_within n = shares_within n 16

module _ (travel : Pulse) (f : Favourites) (i : IpIndex) (w : ips_within travel f.slots ≡ true) where
  pub ip_at_within : ip_within travel (ip_at f i) ≡ true
  ip_at_within = either (λ (x : Ip). ip_within travel x ≡ true) (is_number i) (λ e. at_within travel f.slots (i.0 - 1) w) (λ e. refl)

  pub with_ip_within : (x : Ip) → ip_within travel x ≡ true → ips_within travel (with_ip f i x).slots ≡ true
  with_ip_within x e =
      either (λ (g : Favourites). ips_within travel g.slots ≡ true) (is_number i) (λ k. set_within travel f.slots (i.0 - 1) x e w) (λ k. w)
