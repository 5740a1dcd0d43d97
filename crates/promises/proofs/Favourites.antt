-- The sixteen IPs: one by its number, the one reported, and IPs that share the travel.
-- Assumes nothing.
use Prim.Native.Nat.{ℕ, zero, suc, ◌+◌, ◌-◌, ◌*◌, ◌/◌, ◌≤◌, ◌<◌}
use native.Mathlib.Omega.{arith}
use native.Mathlib.Nat.{le_of_suc-le-suc}
use mathlib.Core.Path.{◌≡◌, refl, ◌∙◌, ap}
use mathlib.Core.Logic.{◌≢◌, ◌↔◌, ◌⊎◌, inl, inr}
use mathlib.Core.Bool.{true, false}
use mathlib.Core.List.{List, [], ◌∷◌}
use borrow.Author.Tests.{le-leb, lt-leb, leb-true, leb-false, eq-eqb, ne_eqb}
use lib.Dec.{leb}
use lib.ListN.{length, get_or, get_or-append}
use lib.Seq.{get_or_at}
use Rattle.meaning.specs.Cases.{by_test}
use Rattle.travel.specs.Position.{pulse_of_percent}
use Rattle.travel.specs.Share.{share_to_n}
use Rattle.travel.specs.Units.{ip}
use Rattle.travel.specs.declared.IpIndex.{IpIndex}
use Rattle.travel.specs.declared.Percent.{Percent}
use Rattle.travel.specs.declared.Pulse.{Pulse}
use Rattle.board.specs.Favourites.{is_number, ip_at, shared_ip, shared_to, shared_out, is_at, first_at, reported_ip, Ip}
use Rattle.board.specs.declared.favourites.Favourites.{Favourites}
use Rattle.board.proofs.Fitting.{with_ip_sixteen, shared_so_many, shared_out_sixteen}
use Rattle.promises.specs.BoardParts.{pulse, percent, ip_of}
use Rattle.promises.specs.Demand2.Favourites.{NoneBelow, SixteenIps}
use Rattle.std.specs.Prelude.{Some, None}

unset_or_at : (x : Ip) → (x ≡ None) ⊎ ((p : Pulse) × (x ≡ Some p))
unset_or_at None = inl refl
unset_or_at (Some p) = inr (p, refl)

-- ---- by its number
by_number : (f : Favourites) (i : IpIndex) → 1 ≤ i.0 → i.0 ≤ 16 → ip_at f i ≡ ip_of f i.0
by_number f i l u = rw (le-leb 1 i.0 l, le-leb i.0 16 u)

-- IP 1 stands at place 0.
at_its_place : (f : Favourites) (place : ℕ) → ip_of f (suc place) ≡ get_or f.slots place None
at_its_place f place = ap (λ (k : ℕ). get_or f.slots k None) (omega arith)

no_number : (i : IpIndex) → (i.0 < 1) ⊎ (16 < i.0) → is_number i ≡ false
no_number i (inl low) = rw (lt-leb 1 i.0 low)
no_number i (inr high) = rw (le-leb 1 i.0 (omega (arith, high)), lt-leb i.0 16 high)

-- ---- the one reported
module _ (position : Pulse) where
  not_at : (x : Ip) → x ≢ Some position → is_at x position ≡ false
  not_at None other = refl
  not_at (Some p) other = ne_eqb p.0 position.0 (λ e. other (ap (λ (k : ℕ). Some (pulse k)) e))

  is_at_lem : (x : Ip) → x ≡ Some position → is_at x position ≡ true
  is_at_lem x e = rw e (eq-eqb position.0 position.0 refl)

  -- The place counted from `number` on.
  first_at_lem : (l : List Ip) (number place : ℕ) → place < length l → get_or l place None ≡ Some position
      → ((lower : ℕ) → lower < place → get_or l lower None ≢ Some position) → first_at number l position ≡ number + place
  unfolding first_at
  first_at_lem [] number place h here none = absurd (omega arith)
  first_at_lem (s ∷ l) number zero h here none = rw (is_at_lem s here) (omega arith)
  first_at_lem (s ∷ l) number (suc place) h here none =
      rw (not_at s (none 0 (omega arith)))
      (first_at_lem l (suc number) place (le_of_suc-le-suc h) here (λ lower below. none (suc lower) (omega (arith, below))) ∙ omega arith)

  none_at : (l : List Ip) (number : ℕ) → ((place : ℕ) → place < length l → get_or l place None ≢ Some position)
      → first_at number l position ≡ 0xFF
  unfolding first_at
  none_at [] number none = refl
  none_at (s ∷ l) number none =
      rw (not_at s (none 0 (omega arith))) (none_at l (suc number) (λ place h. none (suc place) (omega (arith, h))))

  -- Numbers below FFh are never FFh.
  then_none_at : (l : List Ip) (number : ℕ) → number + length l ≤ 0xFF → first_at number l position ≡ 0xFF
      → (place : ℕ) → place < length l → get_or l place None ≢ Some position
  unfolding first_at
  then_none_at [] number few e place h here = omega arith
  then_none_at (s ∷ l) number few e zero h here =
      let reported : number ≡ 0xFF = rw (is_at_lem s here) at e in omega (arith, reported, few)
  then_none_at (s ∷ l) number few e (suc place) h here =
      by_test (is_at s position)
      (λ t. let reported : number ≡ 0xFF = rw t at e in omega (arith, reported, few))
      (λ t. then_none_at l (suc number) (omega (arith, few)) (rw t at e) place (le_of_suc-le-suc h) here)

module _ (f : Favourites) (position : Pulse) (n : length f.slots ≡ 16) where
  none_below_its_place : (number : ℕ) → NoneBelow number f position
      → (lower : ℕ) → suc lower < number → get_or f.slots lower None ≢ Some position
  none_below_its_place number none lower h here = none (suc lower) (omega arith) h (at_its_place f lower ∙ here)

  the_first : (i : ℕ) → 1 ≤ i → i ≤ 16 → ip_of f i ≡ Some position → NoneBelow i f position → reported_ip f position ≡ i
  the_first i l u here none =
      first_at_lem position f.slots 1 (i - 1) (omega (arith, n, l, u)) here (λ lower h. none_below_its_place i none lower (omega (arith, h)))
      ∙ omega (arith, l)

  ffh_exactly_when : (reported_ip f position ≡ 0xFF) ↔ NoneBelow 17 f position
  ffh_exactly_when = (
    λ e number l u. then_none_at position f.slots 1 (omega (arith, n)) e (number - 1) (omega (arith, n, l, u)),
    λ none. none_at position f.slots 1 (λ place h. none_below_its_place 17 none place (omega (arith, n, h))),
  )

-- ---- shared out
module _ (n : ℕ) (travel : Pulse) where
  shared_at : (k place : ℕ) → place < k → get_or (shared_to n travel k) place None ≡ shared_ip n travel (ip (suc place))
  unfolding shared_to
  shared_at zero place h = absurd (omega arith)
  shared_at (suc k) place h =
      let so_many = shared_so_many n travel k in
      let last = shared_ip n travel (ip (suc k)) ∷ [] in
      by_test (leb k place)
      (λ t.
      let here : k ≡ place = omega (arith, leb-true k place t, h) in
      get_or_at (shared_to n travel k) (shared_ip n travel (ip (suc k))) [] None place (so_many ∙ here)
      ∙ ap (λ (number : ℕ). shared_ip n travel (ip (suc number))) here)
      (λ t.
      let before = leb-false k place t in
      get_or-append (shared_to n travel k) last None place (omega (arith, so_many, before)) ∙ shared_at k place before)

  shared : (i : ℕ) → 1 ≤ i → i ≤ 16 → ip_of (shared_out n travel) i ≡ shared_ip n travel (ip i)
  shared zero l u = absurd (omega arith)
  shared (suc place) l u = at_its_place (shared_out n travel) place ∙ (shared_at 16 place (omega arith))

  to_n : (i : ℕ) → 1 ≤ i → i ≤ n → i ≤ 16 → ip_of (shared_out n travel) i ≡ Some (pulse_of_percent (percent (100 * i / (n + 1))) travel)
  to_n i l u few =
      shared i l few ∙ rw (le-leb i n u) (ap (λ (k : Percent). Some (pulse_of_percent k travel)) (share_to_n (ip i) n u))

  beyond_n : (i : ℕ) → n < i → i ≤ 16 → ip_of (shared_out n travel) i ≡ None
  beyond_n i h few = shared i (omega arith) few ∙ rw (lt-leb i n h)

pub sixteen_ips : SixteenIps
sixteen_ips =
    record {
      an_ip_is_unset_or_at_a_pulse = unset_or_at;
      an_ip_is_found_by_its_number = by_number;
      no_other_number_is_set = λ f i h. rw (no_number i h);
      no_other_number_can_be_set = λ f i x h. rw (no_number i h);
      setting_one_leaves_sixteen = with_ip_sixteen;
      the_first_ip_at_the_position_is_reported = λ f position i n. the_first f position n i;
      ffh_exactly_when_none_is_at_the_position = ffh_exactly_when;
      ips_to_n_share_the_travel = to_n;
      the_rest_are_unset = beyond_n;
      sharing_out_leaves_sixteen = shared_out_sixteen;
    }
