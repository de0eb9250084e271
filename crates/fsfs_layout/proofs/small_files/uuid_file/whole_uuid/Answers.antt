use Rattle.std.proofs.Common.{◌≡◌, ℕ, List, suc, length, sym, subst, arith}
use Rattle.fsfs_base.specs.Grammar.Cuts.{Lacks}
use Rattle.fsfs_layout.proofs.LineBytes.{line_reads}
use Rattle.fsfs_layout.proofs.small_files.uuid_file.whole_uuid.Goals as goal

pub copy_from_slice-requires : goal.copy_from_slice-requires
copy_from_slice-requires c =
    let w = (line_reads 36 (suc (length c.args.bytes.now))).found _ _ _ (omega arith) c.in_ok-line.ensures in
    sym w.text.1

pub invariant_of-result : goal.invariant_of-result
invariant_of-result c =
    let w = (line_reads 36 (suc (length c.args.bytes.now))).found _ _ _ (omega arith) c.in_ok-line.ensures in
    subst (λ (u : List ℕ). (length u ≡ 36) × Lacks 10 u) (sym c.copy_from_slice.ensures.after) (w.text.1, w.text.2)
