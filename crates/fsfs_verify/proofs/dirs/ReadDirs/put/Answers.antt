use Rattle.std.proofs.Common.{◌≡◌, ◌≤◌, ℕ, List, refl, sym, ap, ◌∙◌, arith}
use Rattle.std.specs.Prelude.{Err}
use Rattle.std.proofs.lemmas.Result.{err_from_is_err_and}
use Rattle.std.specs.declared.vec.Vec.{Vec}
use Rattle.std.specs.declared.alloc.Global.{Global}
use Rattle.fsfs_revision.specs.Shows.Reading.{EntriesOf}
use Rattle.fsfs_dag.specs.declared.directory.DirEntry.{DirEntry}
use Rattle.fsfs_dag.specs.Views.{entry_values, home_of}
use Rattle.fsfs_verify.proofs.Findings.{wrong_as}
use Rattle.fsfs_verify.proofs.ReadDirLemmas.{put_at}
use Rattle.fsfs_verify.proofs.dirs.ReadDirs.put.Goals as goal

pub returns-in_err-all-clause-told : goal.returns-in_err-all-clause-told
returns-in_err-all-clause-told g c = λ look rev knows le.
    let p = err_from_is_err_and c.from_residual.result c.from_residual.ensures.1 in
    let dir = c.args.dir.now.node in
    rw (p.1, p.2) (wrong_as (λ (v : Vec DirEntry Global). entry_values v.items) (EntriesOf look dir) (λ w. EntriesOf look dir (Err w)) c.in_err-all.field-0.0 (λ w h. h) (c.in_err-all.ensures.told look (λ r lower. knows r (omega (arith, lower, le)))))

pub returns-in-Ok-clause-told : goal.returns-in-Ok-clause-told
returns-in-Ok-clause-told g c = λ look rev knows le. record {
  root = refl;
  entries = entry_values c.in_ok-all.all.items;
  entries_are = c.in_ok-all.ensures.told look (λ r lower. knows r (omega (arith, lower, le)));
  found = c.in_ok-by_name.by_name;
  by_name_is = c.in_ok-by_name.ensures;
  put = put_at c.args.self.now.dirs.entries c.insert.new.self.entries c.args.path c.in_ok-by_name.by_name c.in-Ok.ensures.updates.0;
}
