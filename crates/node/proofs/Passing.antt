-- A frame is meant for the node exactly when document 01's four conditions hold.
-- Assumes nothing.
use mathlib.Core.Path.{◌≡◌, refl, ◌∙◌, sym}
use mathlib.Core.Logic.{◌↔◌, ◌≢◌, ◌⊎◌, inl, inr}
use mathlib.Core.Bool.{Bool, true, false, not, ◌&&◌, ◌||◌, false≢true}
use borrow.Author.Tests.{eq-eqb, ne_eqb, eqb-true, eqb-false, not-true}
use lib.Dec.{eqb}
use Rattle.meaning.specs.Cases.{both, and_so, either_way, or_first, or_later}
use Rattle.meaning.specs.Membership.{IsOneOf, one_of, is_in_lem}
use Rattle.frame.specs.Address.{group, broadcast}
use Rattle.frame.specs.declared.header.Header.{Header}
use Rattle.board.specs.declared.settings.Settings.{Settings}
use Rattle.board.specs.Groups.{Groups, in_table, Member}
use Rattle.board.proofs.GroupTable.{member_exactly_when}
use Rattle.node.specs.Meant.{meant, reaches, is_sender, suits, is_reply, replies, Meant}

module _ (s : Settings) (g : Groups) (h : Header) where
  abbrev by_id : Bool
  by_id = eqb h.destination.0 s.id.0

  abbrev by_broadcast : Bool
  by_broadcast = eqb h.destination.0 broadcast.0

  abbrev by_group : Bool
  by_group = eqb h.destination.0 group.0 && in_table h.source g

  abbrev ForThisNode : Type 0
  ForThisNode = (h.destination.0 ≡ s.id.0) ⊎ ((h.destination.0 ≡ broadcast.0) ⊎ ((h.destination.0 ≡ group.0) × Member h.source g))

  grouped : by_group ≡ true → (h.destination.0 ≡ group.0) × Member h.source g
  grouped e =
      let b = both (eqb h.destination.0 group.0) (in_table h.source g) e in
      (eqb-true h.destination.0 group.0 b.0, (member_exactly_when h.source g).1 b.1)

  reached : reaches s.id g h.source h.destination ≡ true → ForThisNode
  reached e = first (either_way by_id (by_broadcast || by_group) e)
    where
      second : (by_broadcast ≡ true) ⊎ (by_group ≡ true) → ForThisNode
      second (inl f) = inr (inl (eqb-true h.destination.0 broadcast.0 f))
      second (inr f) = inr (inr (grouped f))

      first : (by_id ≡ true) ⊎ ((by_broadcast || by_group) ≡ true) → ForThisNode
      first (inl f) = inl (eqb-true h.destination.0 s.id.0 f)
      first (inr f) = second (either_way by_broadcast by_group f)

  reaching : ForThisNode → reaches s.id g h.source h.destination ≡ true
  reaching (inl e) = or_first by_id (by_broadcast || by_group) (eq-eqb h.destination.0 s.id.0 e)
  reaching (inr (inl e)) = or_later by_id (by_broadcast || by_group) (or_first by_broadcast by_group (eq-eqb h.destination.0 broadcast.0 e))
  reaching (inr (inr (e, m))) =
      or_later by_id (by_broadcast || by_group)
      (or_later by_broadcast by_group
      (and_so (eqb h.destination.0 group.0) (in_table h.source g) (eq-eqb h.destination.0 group.0 e)
      ((member_exactly_when h.source g).0 m)))

  sent : is_sender h.source ≡ true → (h.source.0 ≢ 0x000000) × (h.source.0 ≢ 0xFFFFFF)
  sent e =
      let b = both (not (eqb h.source.0 0x000000)) (not (eqb h.source.0 0xFFFFFF)) e in (
        eqb-false h.source.0 0x000000 (not-true (eqb h.source.0 0x000000) b.0),
        eqb-false h.source.0 0xFFFFFF
            (not-true (eqb h.source.0 0xFFFFFF) b.1),
      )

  sending : h.source.0 ≢ 0x000000 → h.source.0 ≢ 0xFFFFFF → is_sender h.source ≡ true
  sending a b = rw (ne_eqb h.source.0 0x000000 a, ne_eqb h.source.0 0xFFFFFF b)

  suited : suits s.kind h.receiver ≡ true → (h.receiver ≡ 0) ⊎ (h.receiver ≡ s.kind)
  suited e = by (either_way (eqb h.receiver 0) (eqb h.receiver s.kind) e)
    where
      by : (eqb h.receiver 0 ≡ true) ⊎ (eqb h.receiver s.kind ≡ true) → (h.receiver ≡ 0) ⊎ (h.receiver ≡ s.kind)
      by (inl f) = inl (eqb-true h.receiver 0 f)
      by (inr f) = inr (eqb-true h.receiver s.kind f)

  suiting : (h.receiver ≡ 0) ⊎ (h.receiver ≡ s.kind) → suits s.kind h.receiver ≡ true
  suiting (inl e) = or_first (eqb h.receiver 0) (eqb h.receiver s.kind) (eq-eqb h.receiver 0 e)
  suiting (inr e) = or_later (eqb h.receiver 0) (eqb h.receiver s.kind) (eq-eqb h.receiver s.kind e)

  is_no_reply : not (is_reply h.message) ≡ true → ¬ IsOneOf h.message replies
  is_no_reply e i = false≢true (sym (not-true (is_reply h.message) e) ∙ is_in_lem h.message replies i)

  no_reply_is : ¬ IsOneOf h.message replies → (t : Bool) → is_reply h.message ≡ t → not t ≡ true
  no_reply_is n true e = absurd (n (one_of h.message replies e))
  no_reply_is n false e = refl

  abbrev rest : Bool
  rest = is_sender h.source && (suits s.kind h.receiver && not (is_reply h.message))

  pub the_four_conditions : meant s g h ≡ true → Meant s g h
  unfolding meant
  the_four_conditions e =
      let a = both (reaches s.id g h.source h.destination) rest e in
      let b = both (is_sender h.source) (suits s.kind h.receiver && not (is_reply h.message)) a.1 in
      let c = both (suits s.kind h.receiver) (not (is_reply h.message)) b.1 in
      record {
        for_this_node = reached a.0;
        from_a_sender = sent b.0;
        of_its_type = suited c.0;
        no_reply_lem = is_no_reply c.1;
      }

  pub meant_by_the_four : Meant s g h → meant s g h ≡ true
  unfolding meant
  meant_by_the_four m =
      and_so (reaches s.id g h.source h.destination) rest (reaching m.for_this_node)
      (and_so (is_sender h.source) (suits s.kind h.receiver && not (is_reply h.message))
      (sending m.from_a_sender.0 m.from_a_sender.1)
      (and_so (suits s.kind h.receiver) (not (is_reply h.message)) (suiting m.of_its_type)
      (no_reply_is m.no_reply_lem (is_reply h.message) refl)))

  pub meant_exactly_when : Meant s g h ↔ (meant s g h ≡ true)
  meant_exactly_when = (meant_by_the_four, the_four_conditions)
