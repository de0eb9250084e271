use Rattle.std.proofs.Common.{List, ℕ, sym, subst}
use Rattle.fsfs_layout.specs.Formats.{IsFormat}
use Rattle.fsfs_layout.specs.declared.small_files.format_file.FormatFile.TheVariants.{Known}
use Rattle.fsfs_layout.proofs.Writing.{written_is, written_put}
use Rattle.fsfs_layout.proofs.small_files.format_file.write_format.Goals as goal

pub returns-clause-grammar : goal.returns-clause-grammar
returns-clause-grammar c =
    let layout = c.args.layout in
    let written = written_put layout c.new-out.result.items c.put_format.new.out.items c.put_folders.new.out.items c.format.result c.folders.result c.new-out.ensures.items c.in_ok-put_format.ensures c.format.ensures c.in_ok-put_folders.ensures c.folders.ensures.folders in
    λ four. subst (λ (t : List ℕ). IsFormat t (Known layout)) (sym written) (written_is layout four)
