use Rattle.std.proofs.Common.{◌≡◌, ◌++◌, ℕ, Option, refl, sym, ap, subst, ◌∙◌, length}
use Rattle.std.specs.Prelude.{option_map, IfSome}
use Rattle.std.proofs.lemmas.Result.{err_from_is_err_and}
use Rattle.fsfs_base.specs.Files.{Files}
use Rattle.fsfs_disk.specs.Benches.{appended, bytes_in}
use Rattle.fsfs_txn_files.proofs.TextLemmas.{spoiled_after, left_bench, checked}
use Rattle.fsfs_txn_files.proofs.ReadBack.{read_back}
use Rattle.fsfs_txn_files.proofs.Steps.{plain, framed_files}
use Rattle.fsfs_txn_files.proofs.proto_rev.appending.append_text.Goals as goal

pub returns-in_err-put-clause-left : goal.returns-in_err-put-clause-left
returns-in_err-put-clause-left g c =
    let t = c.in_ok-taken.ensures.taken in
    let old = g.D.Bench.contents c.args.bench.now in
    let mid = g.D.Bench.contents c.append_bytes.new.bench in
    let name = c.args.file.now in
    let files : mid ≡ option_map (appended name (plain ++ t.text)) old = t.files ∙ ap (λ (o : Option Files). option_map (appended name (plain ++ t.text)) o) c.in_ok-offset.ensures.same in
    let p = err_from_is_err_and c.from_residual-in_err-put.result c.from_residual-in_err-put.ensures.1 in
    rw (p.1, p.2) (left_bench old (g.D.Bench.contents c.put.new.bench) name _ c.in_err-put.ensures.refused
    (spoiled_after old mid (g.D.Bench.contents c.put.new.bench) name (plain ++ t.text) files c.in_err-put.ensures.err))

pub returns-clause-put : goal.returns-clause-put
returns-clause-put g c =
    let t = c.in_ok-taken.ensures.taken in
    let old = g.D.Bench.contents c.args.bench.now in
    let mid = g.D.Bench.contents c.append_bytes.new.bench in
    let name = c.args.file.now in
    let files : mid ≡ option_map (appended name (plain ++ t.text)) old = t.files ∙ ap (λ (o : Option Files). option_map (appended name (plain ++ t.text)) o) c.in_ok-offset.ensures.same in
    let r = c.rep-rep.ensures t.text t.has in
    record {
      text = t.text;
      given = t.given;
      short = t.short;
      expected = checked c.args.expect c.rep-rep.result.md5 t.text c.in_ok-check.ensures r.md5_is;
      files = framed_files old mid (g.D.Bench.contents c.put.new.bench) name t.text files c.in_ok-put.ensures.ok;
      rep_is = record { rev = r.rev; offset_is = refl; length_is = r.length_is; size = r.size; md5_is = r.md5_is; unique = r.unique; unique_is = r.unique_is; sha1_is = r.sha1_is; txn_is = r.txn_is; number_is = r.number_is };
      offset = subst (λ (n : ℕ). IfSome old (λ m. n ≡ length (bytes_in m name))) (sym r.offset_is) c.in_ok-offset.ensures.length;
    }

pub returns-clause-read : goal.returns-clause-read
returns-clause-read g c =
    read_back (g.D.Bench.contents c.args.bench.now) (g.D.Bench.contents c.put.new.bench) (g.I.Source.remaining c.args.source.now) (g.I.Source.remaining c.append_bytes.new.source) c.args.file.now
    c.args.expect c.args.txn.now c.args.number.now c.rep-rep.result (returns-clause-put g c)
