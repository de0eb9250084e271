use Rattle.std.proofs.lemmas.Result.{err_from_is_err_and}
use Rattle.fsfs_fetch.specs.ViewLemmas.{later_more}
use Rattle.fsfs_fetch.proofs.DirectLemmas.{finds_later}
use Rattle.fsfs_fetch.proofs.TellingLemmas.{keeps}
use Rattle.fsfs_fetch.proofs.PropsLemmas.{no_more, reads_no_more, text_met, none_met, none_above}
use Rattle.fsfs_fetch.proofs.direct.DirectRevProps.read_props.Goals as goal

pub returns-in_err-check_rev-clause-refused : goal.returns-in_err-check_rev-clause-refused
returns-in_err-check_rev-clause-refused g c =
    let v = g.R.Reads.view c.args.self.now.reads in
    let w = g.R.Reads.view c.check_rev.new.reads in
    let r = err_from_is_err_and c.from_residual.result c.from_residual.ensures.1 in
    let a = c.in_err-check_rev.ensures.above in
    rw (r.1, r.2) (none_above v.reach w.reach (g.R.Reads.may_meet c.args.self.now.reads) (g.R.Reads.may_meet c.check_rev.new.reads) c.in_err-check_rev.ensures.later.reach c.in_err-check_rev.ensures.fewer c.args.rev a.0 c.in_err-check_rev.field-0.0 a.1 a.2 a.3)

pub returns-in_err-check_rev-clause-fewer : goal.returns-in_err-check_rev-clause-fewer
returns-in_err-check_rev-clause-fewer g c =
    reads_no_more (g.R.Reads.view c.args.self.now.reads).reach (g.R.Reads.view c.check_rev.new.reads).reach (g.R.Reads.may_meet c.args.self.now.reads) (g.R.Reads.may_meet c.check_rev.new.reads) c.in_err-check_rev.ensures.later.reach c.in_err-check_rev.ensures.fewer

pub returns-in_err-check_rev-clause-kept : goal.returns-in_err-check_rev-clause-kept
returns-in_err-check_rev-clause-kept g c = keeps _ _ _ _ _ _ c.in_err-check_rev.ensures.later (finds_later _ _ _ _ c.in_err-check_rev.ensures.later)

pub returns-clause-read : goal.returns-clause-read
returns-clause-read g c =
    text_met (g.R.Reads.view c.args.self.now.reads).reach (g.R.Reads.view c.check_rev.new.reads).reach (g.R.Reads.may_meet c.args.self.now.reads) (g.R.Reads.may_meet c.check_rev.new.reads) c.in_ok-check_rev.ensures.later.reach c.in_ok-check_rev.ensures.fewer
    c.args.rev c.args.buffer.now c.props_of.new.buffer c.props_of.result c.in_ok-check_rev.ensures.there c.props_of.ensures.read

pub returns-clause-refused : goal.returns-clause-refused
returns-clause-refused g c =
    none_met (g.R.Reads.view c.args.self.now.reads).reach (g.R.Reads.view c.check_rev.new.reads).reach (g.R.Reads.may_meet c.args.self.now.reads) (g.R.Reads.may_meet c.check_rev.new.reads) c.in_ok-check_rev.ensures.later.reach c.in_ok-check_rev.ensures.fewer
    c.args.rev c.props_of.result c.in_ok-check_rev.ensures.there c.props_of.ensures.refused

pub returns-clause-fewer : goal.returns-clause-fewer
returns-clause-fewer g c =
    let old = g.R.Reads.may_meet c.args.self.now.reads in
    let mid = g.R.Reads.may_meet c.check_rev.new.reads in
    let new = g.R.Reads.may_meet c.props_of.new.reads in
    let later = later_more _ _ _ c.in_ok-check_rev.ensures.later c.props_of.ensures.later in
    reads_no_more (g.R.Reads.view c.args.self.now.reads).reach (g.R.Reads.view c.props_of.new.reads).reach old new later.reach (no_more old mid new c.in_ok-check_rev.ensures.fewer c.props_of.ensures.fewer)

pub returns-clause-kept : goal.returns-clause-kept
returns-clause-kept g c =
    let later = later_more _ _ _ c.in_ok-check_rev.ensures.later c.props_of.ensures.later in
    keeps _ _ _ _ _ _ later (finds_later _ _ _ _ later)
