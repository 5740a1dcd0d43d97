-- What a message comes to, as the turn whole: carried out, refused by a code, or a GET answered.
-- Assumes nothing.
use Rattle.std.specs.Prelude.{if◌then◌else◌, None}
use Prim.Native.Nat.{ℕ, ◌≤◌, ◌<◌}
use native.Mathlib.Omega.{arith}
use mathlib.Core.Path.{◌≡◌, refl, ◌∙◌, sym, ap, subst}
use mathlib.Core.Logic.{◌≢◌, ◌⊎◌, inl, inr, ⊎_elim}
use mathlib.Core.List.{List, [], ◌∷◌}
use borrow.Author.Tests.{leb-true, leb-false}
use lib.ListN.{length}
use Rattle.meaning.specs.Bytes.{Bytes}
use Rattle.meaning.specs.Choice.{either}
use Rattle.meaning.specs.Tables as tables
use Rattle.frame.specs.Layout.{message, source, header_of, data_of}
use Rattle.board.specs.Groups.{Groups, Change}
use Rattle.board.specs.declared.whole.Node.{Node}
use Rattle.messages.specs.Code.{code_of}
use Rattle.messages.specs.Outcome.{acts, posts, refuses, refusals, refusing}
use Rattle.messages.specs.Table.{outcome_of}
use Rattle.messages.specs.declared.code.Code.{Code}
use Rattle.messages.specs.declared.outcome.Outcome.{Outcome}
use Rattle.messages.specs.declared.outcome.Say.{Say}
use Rattle.messages.specs.declared.outcome.Say.TheVariants.{Done, Post, Refuse}
use Rattle.messages.proofs.Contents.{content_is, no_bytes, one_more_byte, code_fits}
use Rattle.messages.proofs.Messages.{or_refused}
use Rattle.node.specs.Frames.{turn_of}
use Rattle.node.specs.Replies.{reply_to, answered}
use Rattle.node.specs.Turn.{silent, replied}
use Rattle.node.specs.declared.turn.Turn.{Turn}
use Rattle.promises.specs.Wire.{raw}
use Rattle.promises.specs.Reply.{IsReply, reply_in}
use Rattle.promises.specs.Rows.{Row, FirstOf}
use Rattle.promises.specs.Demand2.Turns.{SaidIfAsked, CarriedOut, RefusedBy, Posted}
use Rattle.promises.specs.Demand2.Codes.{FirstCode, Accepted}
use Rattle.promises.specs.Demand2.Effects.{Arrives}
use Rattle.promises.proofs.First.{numbered, first, Alike, same_number, one_number}
use Rattle.promises.proofs.Frames.{rules_exactly_when}
use Rattle.promises.proofs.Meant.{carried_out as meant_is_carried_out}
use Rattle.promises.proofs.Reply.{a_reply_by_its_bytes}

-- The code that an outcome refuses by, 0 where it does not.
abbrev pub code_in : Say → ℕ
code_in Done = 0
code_in (Post message) = 0
code_in (Refuse code) = code_of code

abbrev pub code_number : Outcome → ℕ
code_number o = code_in o.say

never_0 : (code : Code) → code_of code ≢ 0
never_0 Code.UnknownMessage e = omega arith
never_0 Code.TooLittleData e = omega arith
never_0 Code.OutOfRange e = omega arith
never_0 Code.Locked e = omega arith
never_0 Code.PriorityTooLow e = omega arith
never_0 Code.Blocked e = omega arith
never_0 Code.IpNotSet e = omega arith

module _ (n : Node) (g : Groups) (b : List ℕ) (a : Arrives n g b) where
  abbrev pub came_to : Outcome
  came_to = outcome_of n g (source b) (message b) (data_of b)

  turned : (o : Outcome) → came_to ≡ o → turn_of n g b ≡ answered n.settings (header_of b) o
  turned o e =
      meant_is_carried_out n g b a.in_range_lem ((rules_exactly_when b).0 a.is_frame) a.is_meant
      ∙ ap (answered n.settings (header_of b)) e

  -- An answer that goes out only with the ACK bit.
  module _ (after : Node) (change : Change) (m : ℕ) (content : List ℕ) (named : m < 255) (few : length content ≤ 20) (bytes : Bytes content) where
    abbrev if_asked : Turn
    if_asked = if (header_of b).ack then replied after change (reply_to n.settings (header_of b) m content) else silent after change

    says_if_asked : (if_asked.node ≡ after) × ((if_asked.change ≡ change) × SaidIfAsked n b m content if_asked)
    says_if_asked =
        either (λ (t : Turn). (t.node ≡ after) × ((t.change ≡ change) × SaidIfAsked n b m content t)) (header_of b).ack
        (λ e. (
          refl,
          (
            refl,
            record {
              asked = λ h. (refl, a_reply_by_its_bytes n b m content a.in_range_lem named few bytes);
              not_asked = λ no. absurd (no (leb-true 128 (raw b 1) e));
            },
          ),
        ))
        (λ e. (
          refl,
          (
            refl,
            record {
              asked = λ h. absurd (omega (arith, leb-false 128 (raw b 1) e));
              not_asked = λ no. (refl, refl);
            },
          ),
        ))

  pub carried_out : (after : Node) (change : Change) → came_to ≡ acts after change → CarriedOut n b (turn_of n g b) after change
  carried_out after change e =
      let (node, (table, says)) = says_if_asked after change 0x7F [] (omega arith) (omega arith) no_bytes in
      subst (λ (t : Turn). CarriedOut n b t after change) (sym (turned (acts after change) e))
      (record { the_board = node; the_table = table; says = says })

  pub refused_by_lem : (code : Code) → came_to ≡ refuses n code → RefusedBy n b (turn_of n g b) (code_of code)
  refused_by_lem code e =
      let bytes = one_more_byte (code_of code) [] (code_fits code) no_bytes in
      let (node, (table, says)) = says_if_asked n None 0x6F (code_of code ∷ []) (omega arith) (omega arith) bytes in
      subst (λ (t : Turn). RefusedBy n b t (code_of code)) (sym (turned (refuses n code) e))
      (record { the_board = node; the_table = table; says = says })

  -- ---- a table of codes: the first that applies refuses, and where none does the message is carried out
  module _ (codes : List (tables.Row Code)) (done : Outcome) (e : came_to ≡ refusing n codes done) (plain : code_number done ≡ 0)
      {rows : List Row} (same : Alike (numbered code_number (refusals n codes)) rows) where
    abbrev whole : Outcome
    whole = refusing n codes done

    done_or_refused : (whole ≡ done) ⊎ ((code : Code) × (whole ≡ refuses n code))
    done_or_refused =
        or_refused (λ (o : Outcome). (o ≡ done) ⊎ ((code : Code) × (o ≡ refuses n code))) n (λ code. inr (code, refl)) codes done (λ passed. inl refl)

    its_code : FirstOf rows (code_number whole)
    its_code = same_number same (first code_number (refusals n codes) done plain)

    refuses_by_it : code_number whole ≢ 0 → RefusedBy n b (turn_of n g b) (code_number whole)
    refuses_by_it some =
        ⊎_elim (λ d. absurd (some (ap code_number d ∙ plain)))
        (λ (code, r). subst (RefusedBy n b (turn_of n g b)) (sym (ap code_number r)) (refused_by_lem code (e ∙ r)))
        done_or_refused

    pub first_code : FirstCode n b (turn_of n g b) rows
    first_code = (code_number whole, (its_code, refuses_by_it))

    pub accepted_is_done : Accepted rows → came_to ≡ done
    accepted_is_done none =
        ⊎_elim (λ d. e ∙ d)
        (λ (code, r). absurd (never_0 code (sym (ap code_number r) ∙ one_number rows (code_number whole) 0 its_code none)))
        done_or_refused

  -- ---- a GET
  pub posted : (m : ℕ) (content : List ℕ) → came_to ≡ posts n m content → m < 255 → length content ≤ 20 → Bytes content
      → Posted n b (turn_of n g b) m content
  posted m content e named few bytes =
      subst (λ (t : Turn). Posted n b t m content) (sym (turned (posts n m content) e))
      (record { the_board = refl; the_table = refl; is_answered = refl; says = says })
    where
      says : IsReply n b m content (reply_in (answered n.settings (header_of b) (posts n m content)))
      says = subst (λ (l : List ℕ). IsReply n b m content (reply_to n.settings (header_of b) m l)) (sym (content_is content))
          (a_reply_by_its_bytes n b m content a.in_range_lem named few bytes)
