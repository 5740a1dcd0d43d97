-- An IP is called by the number that it was stored under: the codes and effects of the second turn, of the IP that the
-- first one left.
-- Assumes nothing.
use Prim.Native.Nat.{ℕ, ◌≤◌, ◌<◌}
use native.Mathlib.Omega.{arith}
use mathlib.Core.Path.{◌≡◌, ◌∙◌, refl, sym, ap, subst}
use mathlib.Core.Logic.{◌≢◌, inl, inr}
use mathlib.Core.Bool.{true, false≢true}
use mathlib.Core.List.{List, [], ◌∷◌}
use lib.ListN.{length}
use Rattle.travel.specs.declared.Pulse.{Pulse}
use Rattle.board.specs.Favourites.{is_set, Ip}
use Rattle.board.specs.declared.whole.Node.{Node}
use Rattle.node.specs.Frames.{turn_of}
use Rattle.promises.specs.Groups.{Groups}
use Rattle.promises.specs.Wire.{message, data_of, byte_at, word_at}
use Rattle.promises.specs.BoardParts.{ip_of}
use Rattle.promises.specs.Rows.{◌when◌, FirstOf, applies, passes, none_applies}
use Rattle.promises.specs.Demand2.Codes.{IsAMove, Accepted, move_rows, set_ip_rows}
use Rattle.promises.specs.Demand2.Turns.{CarriedOut, RefusedBy}
use Rattle.promises.specs.Demand2.Effects.{Arrives, to_ip_lem, OneIp}
use Rattle.promises.specs.Demand2.Called.{
  Stores,
  here,
  at_a_percent,
  as_a_share,
  Empties,
  deleted,
  beyond_the_shares,
  Calls,
  GoesTo,
  OnceStored,
  Called,
}
use Rattle.promises.proofs.First.{one_number}
use Rattle.promises.proofs.Codes.{codes}
use Rattle.promises.proofs.Effects.{names_an_ip, names_a_count, accepted_order, effects}
use Rattle.std.specs.Prelude.{Some, None}

-- ---- the call
module _ (n : Node) (g : Groups) (b : List ℕ) (number : ℕ) (least : 1 ≤ number) (most : number ≤ 16) (c : Calls n g b number) where
  abbrev d : List ℕ
  d = data_of b

  abbrev Lacks : Type 0
  Lacks = (byte_at d 0 ≡ 2) × (ip_of n.favourites (word_at d 1) ≡ None)

  under_it : {x : Ip} → ip_of n.favourites number ≡ x → ip_of n.favourites (word_at d 1) ≡ x
  under_it e = ap (ip_of n.favourites) c.by_the_number ∙ e

  a_move : IsAMove (byte_at d 0) (word_at d 1)
  a_move =
      let is = c.by_the_number in inr (inr (inl (c.by_function_2, (omega (arith, is, least), omega (arith, is, most)))))

  -- Only the last of MOVETO's codes can apply.
  by_the_last_code : {code : ℕ} → FirstOf (0x23 when Lacks ∷ []) code → FirstOf (move_rows n d) code
  by_the_last_code last =
      passes (λ (short : length d < 4). omega (arith, short, c.is_long_enough))
      (passes (λ (no_move : ¬ IsAMove (byte_at d 0) (word_at d 1)). no_move a_move)
      (passes (λ (locked : n.lock.locked ≡ true). false≢true (sym c.is_unlocked ∙ locked))
      (passes (λ (blocked : n.drive.blocked ≡ true). false≢true (sym c.is_not_blocked ∙ blocked)) last)))

  goes_to : (p : Pulse) → ip_of n.favourites number ≡ Some p → GoesTo n b (turn_of n g b) p
  goes_to p set =
      let is-set : ¬ Lacks = λ lacks. false≢true (sym (ap is_set lacks.1) ∙ ap is_set (under_it set)) in
      let none : Accepted (move_rows n d) = by_the_last_code (passes is-set (none_applies refl)) in
      let aim = to_ip_lem c.by_function_2 (under_it set) in
      let does = effects n g b c.arrives in
      record {
        runs_down = does.a_motor_sent_down_runs_down c.is_a_moveto none p aim;
        runs_up = does.a_motor_sent_up_runs_up c.is_a_moveto none p aim;
        stands = does.a_motor_that_is_there_stands c.is_a_moveto none p aim;
      }

  is_refused_lem : ip_of n.favourites number ≡ None → RefusedBy n b (turn_of n g b) 0x23
  is_refused_lem unset =
      let (code, (first, refused)) = (codes n g b c.arrives).a_moveto_is_refused c.is_a_moveto in
      let is : code ≡ 0x23 = one_number (move_rows n d) code 0x23 first (by_the_last_code (applies (c.by_function_2, under_it unset))) in
      subst (RefusedBy n b (turn_of n g b)) is (refused (λ e. omega (arith, is, e)))

-- ---- what was stored before it
module _ (n : Node) (g : Groups) (b : List ℕ) (a : Arrives n g b) (m : message b ≡ 0x15) (none : Accepted (set_ip_rows n (data_of b))) where
  abbrev content : List ℕ
  content = data_of b

  -- Under a number from 1 to 16 the first turn has left this.
  record Left (number : ℕ) (x : Ip) : Type 0 where
    least : 1 ≤ number
    most : number ≤ 16
    under_it : ip_of (turn_of n g b).node.favourites number ≡ x

  left_so : {number : ℕ} {x : Ip} {after : Node} → 1 ≤ number → number ≤ 16 → CarriedOut n b (turn_of n g b) after None
      → ip_of after.favourites number ≡ x → Left number x
  left_so {number} least most done e =
      record { least = least; most = most; under_it = ap (λ (k : Node). ip_of k.favourites number) done.the_board ∙ e }

  one : {x : Ip} → byte_at content 0 ≢ 4
      → (after : Node) × (CarriedOut n b (turn_of n g b) after None × OneIp n after (byte_at content 1) x) → Left (byte_at content 1) x
  one other (after, (done, is)) =
      let (least, most) = names_an_ip (byte_at content 0) (byte_at content 1) (word_at content 2) (accepted_order n content none) other in
      left_so least most done is.the_ip_named

  stored_so : {number : ℕ} {p : Pulse} → Stores n content number p → Left number (Some p)
  stored_so (here f) = one (λ e. omega (arith, f, e)) ((effects n g b a).an_ip_is_set_here m none f)
  stored_so (at_a_percent f) = one (λ e. omega (arith, f, e)) ((effects n g b a).an_ip_is_set_at_a_percent m none f)
  stored_so {number} (as_a_share f least within) =
      let (after, (done, is)) = (effects n g b a).ips_are_shared_out m none f in
      let (some, few) = names_a_count (byte_at content 0) (byte_at content 1) (word_at content 2) (accepted_order n content none) f in
      left_so least (omega (arith, within, few)) done (is.to_the_count number least within)

  emptied_so : {number : ℕ} → Empties content number → Left number None
  emptied_so (deleted f) = one (λ e. omega (arith, f, e)) ((effects n g b a).an_ip_is_deleted m none f)
  emptied_so {number} (beyond_the_shares f beyond most) =
      let (after, (done, is)) = (effects n g b a).ips_are_shared_out m none f in
      left_so (omega (arith, beyond)) most done (is.the_rest number beyond most)

  abbrev after : Node
  after = (turn_of n g b).node

  stored_is_called : (number : ℕ) (stored : Pulse) → Stores n content number stored
      → (h : Groups) (call : List ℕ) → Calls after h call number → GoesTo after call (turn_of after h call) stored
  stored_is_called number stored s h call c =
      let left = stored_so s in goes_to after h call number left.least left.most c stored left.under_it

  emptied_is_refused : (number : ℕ) → Empties content number
      → (h : Groups) (call : List ℕ) → Calls after h call number → RefusedBy after call (turn_of after h call) 0x23
  emptied_is_refused number e h call c =
      let left = emptied_so e in is_refused_lem after h call number left.least left.most c left.under_it

  once_stored : OnceStored n b after
  once_stored =
      record {
        what_is_stored_under_a_number_is_called_by_it = stored_is_called;
        a_number_with_nothing_stored_is_refused_by_23h = emptied_is_refused;
      }

pub called : Called
called = record { each_number_calls_its_ip = once_stored }
