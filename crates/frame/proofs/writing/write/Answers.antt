-- Each answer is its row's, and decides what stands in the buffer.
-- Assumes nothing.
use Rattle.std.proofs.Common.{◌∙◌, inl, inr, rules}
use Rattle.frame.specs.Writing.{frame_of}
use Rattle.frame.proofs.Over.{lent_on}
use Rattle.frame.proofs.Rows.{written_by}
use Rattle.frame.proofs.writing.write.Goals as goal

pub returns-then-header-gt-LARGEST_ADDRESS : goal.returns-then-header-gt-LARGEST_ADDRESS
returns-then-header-gt-LARGEST_ADDRESS c =
    let e = written_by c.args.buffer.now c.args.place c.args.header c.args.content.now 0 (search (rules, inl)) in
    record { value = e.0; buffer_after = e.1 }

pub returns-then-header-gt-LARGEST_ADDRESS-2 : goal.returns-then-header-gt-LARGEST_ADDRESS-2
returns-then-header-gt-LARGEST_ADDRESS-2 c =
    let e = written_by c.args.buffer.now c.args.place c.args.header c.args.content.now 0 (search (rules, inr)) in
    record { value = e.0; buffer_after = e.1 }

pub returns-then-header-gt15 : goal.returns-then-header-gt15
returns-then-header-gt15 c =
    let e = written_by c.args.buffer.now c.args.place c.args.header c.args.content.now 1 (search (rules, inl)) in
    record { value = e.0; buffer_after = e.1 }

pub returns-then-header-gt15-2 : goal.returns-then-header-gt15-2
returns-then-header-gt15-2 c =
    let e = written_by c.args.buffer.now c.args.place c.args.header c.args.content.now 1 (search (rules, inr)) in
    record { value = e.0; buffer_after = e.1 }

pub returns-then-count-gt-MOST_DATA : goal.returns-then-count-gt-MOST_DATA
returns-then-count-gt-MOST_DATA c =
    let e = written_by c.args.buffer.now c.args.place c.args.header c.args.content.now 2 (search rules) in
    record { value = e.0; buffer_after = e.1 }

pub returns-then-header-eq255 : goal.returns-then-header-eq255
returns-then-header-eq255 c =
    let e = written_by c.args.buffer.now c.args.place c.args.header c.args.content.now 3 (search rules) in
    record { value = e.0; buffer_after = e.1 }

pub returns-then-place-buffer : goal.returns-then-place-buffer
returns-then-place-buffer c =
    let e = written_by c.args.buffer.now c.args.place c.args.header c.args.content.now 4 (search (rules, inl)) in
    record { value = e.0; buffer_after = e.1 }

pub returns-then-buffer-place : goal.returns-then-buffer-place
returns-then-buffer-place c =
    let e = written_by c.args.buffer.now c.args.place c.args.header c.args.content.now 4 (search (rules, inr)) in
    record { value = e.0; buffer_after = e.1 }

pub returns : goal.returns
returns c =
    let e = written_by c.args.buffer.now c.args.place c.args.header c.args.content.now 5 (search rules) in
    record {
      value = e.0;
      buffer_after =
          lent_on c.args.buffer.now (frame_of c.args.header c.args.content.now) c.lay.new.part c.args.place c.lay.ensures ∙ e.1;
    }
