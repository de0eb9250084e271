use Rattle.std.proofs.Common.{ℕ, sym, ap, subst, ◌∙◌, rules}
use Rattle.std.specs.Prelude.{Option, Ok}
use Rattle.std.proofs.lemmas.Result.{err_from_is_err_and}
use Rattle.fsfs_revision.specs.Told.{size_read}
use Rattle.fsfs_revision.specs.RevBytes.{rev_bytes, rev_file, floor_in}
use Rattle.fsfs_fetch.specs.Answers.{FromFile, size_of_file}
use Rattle.fsfs_fetch.specs.ViewLemmas.{later_more}
use Rattle.fsfs_fetch.proofs.DirectLemmas.{fresh_fault, fresh_floor, fresh_found, fresh_goes, fresh_missing, floor_err_len, bytes_fault, finds_same, finds_read, finds_later, finds_serving, finds_more, gives_at, gone_err, gone_some}
use Rattle.fsfs_fetch.proofs.direct.len_once_more.Goals as goal

pub returns-in_err-refresh-clause-told : goal.returns-in_err-refresh-clause-told
returns-in_err-refresh-clause-told g c = λ m p.
    let v = g.R.Reads.view c.args.reads.now in
    let w = g.R.Reads.view c.refresh.new.reads in
    let r = err_from_is_err_and c.from_residual.result c.from_residual.ensures.1 in
    let h = fresh_fault v w m c.args.rev c.refresh.new.floor c.in_err-refresh.field-0.0 c.in_err-refresh.ensures.later p c.in_err-refresh.ensures.told in
    rw (r.1, r.2) (floor_err_len (floor_in w.layout h.0) (rev_bytes v.layout m c.args.rev) c.refresh.new.floor c.in_err-refresh.field-0.0 (λ fault is. sym h.2 ∙ bytes_fault w.layout h.0 c.args.rev fault is) h.1)

pub returns-in_err-refresh-clause-finds : goal.returns-in_err-refresh-clause-finds
returns-in_err-refresh-clause-finds g c =
    finds_same _ _ _ _ _ _ c.in_err-refresh.ensures.later c.in_err-refresh.ensures.same_floor c.in_err-refresh.ensures.same_kept

pub returns-in_err-refresh-clause-about : goal.returns-in_err-refresh-clause-about
returns-in_err-refresh-clause-about g c =
    let r = err_from_is_err_and c.from_residual.result c.from_residual.ensures.1 in
    rw (r.1, r.2) (c.in_err-refresh.ensures.about c.args.rev 0)

pub returns-then-lt-clause-told : goal.returns-then-lt-clause-told
returns-then-lt-clause-told g c = λ m p.
    let v = g.R.Reads.view c.args.reads.now in
    let w = g.R.Reads.view c.refresh.new.reads in
    let f = fresh_floor v w m c.args.rev c.refresh.new.floor c.in_ok-refresh.ensures.later p c.in_ok-refresh.ensures.told in
    let q = fresh_found v w m c.args.rev c.refresh.new.floor c.refresh.new.kept f (search rules) c.in_ok-refresh.ensures.kept in
    gives_at {X = ℕ} {Y = ℕ} (λ n. n) c.packed_len.result size_read _ _ q.1 (c.packed_len.ensures.told f.new q.0)

pub returns-then-lt-clause-finds : goal.returns-then-lt-clause-finds
returns-then-lt-clause-finds g c =
    finds_more _ _ _ _ _ _ _ _ _ (finds_read _ _ _ _ _ _ c.in_ok-refresh.ensures.later c.in_ok-refresh.ensures.told c.in_ok-refresh.ensures.kept) (finds_serving _ _ _ _ _ c.packed_len.ensures.later c.packed_len.ensures.serves)

pub returns-then-lt-clause-later : goal.returns-then-lt-clause-later
returns-then-lt-clause-later g c =
    later_more _ _ _ c.in_ok-refresh.ensures.later c.packed_len.ensures.later

pub returns-in_err-file_len-clause-told : goal.returns-in_err-file_len-clause-told
returns-in_err-file_len-clause-told g c = λ m p.
    let v = g.R.Reads.view c.args.reads.now in
    let w = g.R.Reads.view c.refresh.new.reads in
    let x = g.R.Reads.view c.file_len.new.reads in
    let f = fresh_floor v w m c.args.rev c.refresh.new.floor c.in_ok-refresh.ensures.later p c.in_ok-refresh.ensures.told in
    let goes = fresh_goes v w m c.args.rev c.refresh.new.floor c.layout.result c.name-name.result f c.layout.ensures c.name-name.ensures in
    let r = err_from_is_err_and c.from_residual-in_err-file_len.result c.from_residual-in_err-file_len.ensures.1 in
    rw (r.1, r.2) (gone_err {X = ℕ} {Y = ℕ} {Z = ℕ} (λ n. n) (λ n. n) size_of_file (rev_file w.layout f.new c.args.rev) _ x.files c.name-name.result c.in_err-file_len.field-0.0 f.gone (c.in_err-file_len.ensures.told _ goes))

pub returns-in_err-file_len-clause-finds : goal.returns-in_err-file_len-clause-finds
returns-in_err-file_len-clause-finds g c =
    finds_more _ _ _ _ _ _ _ _ _ (finds_read _ _ _ _ _ _ c.in_ok-refresh.ensures.later c.in_ok-refresh.ensures.told c.in_ok-refresh.ensures.kept) (finds_later _ _ _ _ c.in_err-file_len.ensures.later)

pub returns-in_err-file_len-clause-later : goal.returns-in_err-file_len-clause-later
returns-in_err-file_len-clause-later g c =
    later_more _ _ _ c.in_ok-refresh.ensures.later c.in_err-file_len.ensures.later

pub returns-in-None-clause-finds : goal.returns-in-None-clause-finds
returns-in-None-clause-finds g c =
    finds_more _ _ _ _ _ _ _ _ _ (finds_read _ _ _ _ _ _ c.in_ok-refresh.ensures.later c.in_ok-refresh.ensures.told c.in_ok-refresh.ensures.kept) (finds_later _ _ _ _ c.in_ok-file_len.ensures.later)

pub returns-in-None-clause-later : goal.returns-in-None-clause-later
returns-in-None-clause-later g c =
    later_more _ _ _ c.in_ok-refresh.ensures.later c.in_ok-file_len.ensures.later

pub returns-in-Some-clause-finds : goal.returns-in-Some-clause-finds
returns-in-Some-clause-finds g c =
    finds_more _ _ _ _ _ _ _ _ _ (finds_read _ _ _ _ _ _ c.in_ok-refresh.ensures.later c.in_ok-refresh.ensures.told c.in_ok-refresh.ensures.kept) (finds_later _ _ _ _ c.in_ok-file_len.ensures.later)

pub returns-in-Some-clause-later : goal.returns-in-Some-clause-later
returns-in-Some-clause-later g c =
    later_more _ _ _ c.in_ok-refresh.ensures.later c.in_ok-file_len.ensures.later

pub returns-in-None-clause-told : goal.returns-in-None-clause-told
returns-in-None-clause-told g c = λ m p.
    let v = g.R.Reads.view c.args.reads.now in
    let w = g.R.Reads.view c.refresh.new.reads in
    let f = fresh_floor v w m c.args.rev c.refresh.new.floor c.in_ok-refresh.ensures.later p c.in_ok-refresh.ensures.told in
    ap size_read (fresh_missing v w m c.args.rev c.refresh.new.floor f (search rules))

pub returns-in-Some-clause-told : goal.returns-in-Some-clause-told
returns-in-Some-clause-told g c = λ m p.
    let v = g.R.Reads.view c.args.reads.now in
    let w = g.R.Reads.view c.refresh.new.reads in
    let x = g.R.Reads.view c.file_len.new.reads in
    let f = fresh_floor v w m c.args.rev c.refresh.new.floor c.in_ok-refresh.ensures.later p c.in_ok-refresh.ensures.told in
    let goes = fresh_goes v w m c.args.rev c.refresh.new.floor c.layout.result c.name-name.result f c.layout.ensures c.name-name.ensures in
    let P : Option ℕ → Type 0 = λ o. FromFile {X = ℕ} {Y = ℕ} (rev_file w.layout f.new c.args.rev) x.files c.name-name.result (λ n. n) size_of_file (Ok o) in
    gone_some {X = ℕ} {Y = ℕ} (λ n. n) size_of_file (rev_file w.layout f.new c.args.rev) _ x.files c.name-name.result c.in-Some.length f.gone (subst P c.in-Some.is (c.in_ok-file_len.ensures.told _ goes))
