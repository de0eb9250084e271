use Rattle.std.proofs.Common.{ℕ, sym, subst, rules}
use Rattle.std.specs.Prelude.{Option, Ok}
use Rattle.std.proofs.lemmas.Result.{err_from_is_err_and}
use Rattle.fsfs_revision.specs.Told.{size_read}
use Rattle.fsfs_revision.specs.RevBytes.{rev_file}
use Rattle.fsfs_fetch.specs.Answers.{FromFile, size_of_file}
use Rattle.fsfs_fetch.specs.ViewLemmas.{later_more, cause_from}
use Rattle.fsfs_fetch.proofs.DirectLemmas.{bytes_packed, finds_later, finds_serving, finds_more, gives_at, gone_at, packed_at, own_goes, own_right, own_some, own_err}
use Rattle.fsfs_fetch.proofs.direct.len_of.Goals as goal

pub returns-then-lt-clause-told : goal.returns-then-lt-clause-told
returns-then-lt-clause-told g c = λ m p.
    let v = g.R.Reads.view c.args.reads.now in
    let q = packed_at v c.args.floor.now c.args.kept.now m c.args.rev (search rules) p in
    gives_at {X = ℕ} {Y = ℕ} (λ n. n) c.packed_len.result size_read _ _ (sym (bytes_packed v.layout m c.args.rev q.packed)) (c.packed_len.ensures.told m q)

pub returns-then-lt-clause-finds : goal.returns-then-lt-clause-finds
returns-then-lt-clause-finds g c =
    finds_serving _ _ _ _ _ c.packed_len.ensures.later c.packed_len.ensures.serves

pub returns-in_err-file_len-clause-told : goal.returns-in_err-file_len-clause-told
returns-in_err-file_len-clause-told g c = λ m p.
    let v = g.R.Reads.view c.args.reads.now in
    let w = g.R.Reads.view c.file_len.new.reads in
    let goes = own_goes v m c.args.rev c.layout.result c.name-name.result p.told p.known c.layout.ensures c.name-name.ensures in
    let right = own_right v c.args.floor.now c.args.kept.now m c.args.rev (search rules) p in
    let r = err_from_is_err_and c.from_residual.result c.from_residual.ensures.1 in
    rw (r.1, r.2) (own_err {X = ℕ} {Y = ℕ} {Z = ℕ} (λ n. n) (λ n. n) size_read (rev_file v.layout m c.args.rev) _ w.files c.name-name.result c.in_err-file_len.field-0.0 right (c.in_err-file_len.ensures.told _ goes))

pub returns-in_err-file_len-clause-finds : goal.returns-in_err-file_len-clause-finds
returns-in_err-file_len-clause-finds g c =
    finds_later _ _ _ _ c.in_err-file_len.ensures.later

pub returns-in-Some-clause-finds : goal.returns-in-Some-clause-finds
returns-in-Some-clause-finds g c =
    finds_later _ _ _ _ c.in_ok-file_len.ensures.later

pub returns-in-Some-clause-told : goal.returns-in-Some-clause-told
returns-in-Some-clause-told g c = λ m p.
    let v = g.R.Reads.view c.args.reads.now in
    let w = g.R.Reads.view c.file_len.new.reads in
    let goes = own_goes v m c.args.rev c.layout.result c.name-name.result p.told p.known c.layout.ensures c.name-name.ensures in
    let right = own_right v c.args.floor.now c.args.kept.now m c.args.rev (search rules) p in
    let P : Option ℕ → Type 0 = λ o. FromFile {X = ℕ} {Y = ℕ} (rev_file v.layout m c.args.rev) w.files c.name-name.result (λ n. n) size_of_file (Ok o) in
    own_some {X = ℕ} {Y = ℕ} (λ n. n) size_read (rev_file v.layout m c.args.rev) _ w.files c.name-name.result c.in-Some.length right (subst P c.in-Some.is (c.in_ok-file_len.ensures.told _ goes))

pub returns-in-None-clause-told : goal.returns-in-None-clause-told
returns-in-None-clause-told g c = λ m p.
    let v = g.R.Reads.view c.args.reads.now in
    let w = g.R.Reads.view c.file_len.new.reads in
    let goes = own_goes v m c.args.rev c.layout.result c.name-name.result p.told p.known c.layout.ensures c.name-name.ensures in
    let P : Option ℕ → Type 0 = λ o. FromFile {X = ℕ} {Y = ℕ} (rev_file v.layout m c.args.rev) w.files c.name-name.result (λ n. n) size_of_file (Ok o) in
    let k = gone_at v w m c.args.rev c.layout.result c.name-name.result c.in_ok-file_len.ensures.later p.told p.known c.layout.ensures c.name-name.ensures (subst P c.in-None.is (c.in_ok-file_len.ensures.told _ goes)) in
    gives_at {X = ℕ} {Y = ℕ} (λ n. n) c.len_once_more.result size_read _ _ k.2 (c.len_once_more.ensures.told k.0 k.1)

pub returns-in-None-clause-finds : goal.returns-in-None-clause-finds
returns-in-None-clause-finds g c =
    finds_more _ _ _ _ _ _ _ _ _ (finds_later _ _ _ _ c.in_ok-file_len.ensures.later) c.len_once_more.ensures.finds

pub returns-in-None-clause-later : goal.returns-in-None-clause-later
returns-in-None-clause-later g c =
    later_more _ _ _ c.in_ok-file_len.ensures.later c.len_once_more.ensures.later

pub returns-in-None-clause-cause : goal.returns-in-None-clause-cause
returns-in-None-clause-cause g c =
    cause_from _ _ _ c.len_once_more.result c.in_ok-file_len.ensures.cause.later c.len_once_more.ensures.cause
