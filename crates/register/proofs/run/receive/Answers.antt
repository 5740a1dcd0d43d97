-- Filing goes by what the report shows.
-- Assumes nothing.
use Rattle.std.proofs.Common.{◌≡◌, ◌∙◌, sym, ap, rules}
use Rattle.motors.specs.Filing.{filing_of, entered, enrolled, recorded, filed_of}
use Rattle.motors.proofs.InPlace.{by_kind}
use Rattle.register.proofs.run.receive.Goals as goal
use Rattle.motors.specs.Report.{Report}

pub returns-then-shows_reading : goal.returns-then-shows_reading
returns-then-shows_reading c =
    let report = c.read_report-report.result in
    let kind = by_kind c.args.run.now c.args.count report in
    let filed : filing_of recorded c.args.run.now c.args.count report ≡ filed_of c.args.run.now c.args.count c.args.line c.args.bundle.now =
    sym (kind.0 (sym c.shows_reading.ensures ∙ c.if-shows_reading.true))
    ∙ ap (λ (r : Report). filing_of entered c.args.run.now c.args.count r) c.read_report-report.ensures in
    rw (← filed) (search rules)

pub returns : goal.returns
returns c =
    let report = c.read_report-report.result in
    let kind = by_kind c.args.run.now c.args.count report in
    let filed : filing_of enrolled c.args.run.now c.args.count report ≡ filed_of c.args.run.now c.args.count c.args.line c.args.bundle.now =
    sym (kind.1 (sym c.shows_reading.ensures ∙ c.if-shows_reading.false))
    ∙ ap (λ (r : Report). filing_of entered c.args.run.now c.args.count r) c.read_report-report.ensures in
    rw (← filed) (search rules)
