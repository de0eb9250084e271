-- What is read has a text.
use Rattle.std.proofs.Common.{ℕ, List, [], ◌∷◌, Option, Some, None, Result, Ok, Err, sym, subst}
use Rattle.std.specs.Prelude.{IfOk}
use Rattle.fsfs_base.specs.Paths.{Path}
use Rattle.fsfs_base.specs.PathTexts.{IsPath}
use Rattle.fsfs_noderev.specs.Fields.{IsSourceText, IsRootText, Puts, nothing}
use Rattle.fsfs_noderev.specs.NodeRevs.{Takes, IsRead}
use Rattle.fsfs_noderev.specs.Writing.{FitsSource, FitsRoot, HasText}
use Rattle.fsfs_noderev.specs.declared.fields.Fields.{Fields}
use Rattle.fsfs_noderev.specs.declared.node_rev.CopySource.{CopySource}
use Rattle.fsfs_noderev.specs.declared.node_rev.CopyRoot.{CopyRoot}
use Rattle.fsfs_noderev.specs.declared.node_rev.NodeRev.{NodeRev}
use Rattle.fsfs_noderev.specs.declared.node_rev.Field.{Field}
use Rattle.fsfs_noderev.specs.declared.node_rev.Field.TheVariants.{Id, NodeKind, Predecessor, Count, Text, Props, CreatedPath, CopiedFrom, CopiedRoot, FreshTxnRoot, MergeinfoCount, MergeinfoHere}
use Rattle.fsfs_noderev.specs.declared.reading.NodeError.{NodeError}

source_fits : (text : List ℕ) (s : CopySource) → IsSourceText text s → IsPath s.path
source_fits text s w = w.3.path_is

root_fits : (text : List ℕ) (r : CopyRoot) → IsRootText text r → IsPath r.path
root_fits text r w = w.3.path_is

-- ---- line after line

abbrev FitsPath : Option Path → Type 0
FitsPath None = Unit {0}
FitsPath (Some p) = IsPath p

record Fit (f : Fields) : Type 0 where
  pub created_path : FitsPath f.created_path
  pub copy_from : FitsSource f.copy_from
  pub copy_root : FitsRoot f.copy_root

put_fits : (field : Option Field) (value : List ℕ) (s t : Fields) → Puts field value s t → Fit s → Fit t
put_fits None value s t w k = subst (λ (f : Fields). Fit f) (sym w) k
put_fits (Some Id) value s t w k = subst (λ (f : Fields). Fit f) (sym w.3) (record { created_path = k.created_path; copy_from = k.copy_from; copy_root = k.copy_root })
put_fits (Some NodeKind) value s t w k = subst (λ (f : Fields). Fit f) (sym w.3) (record { created_path = k.created_path; copy_from = k.copy_from; copy_root = k.copy_root })
put_fits (Some Predecessor) value s t w k = subst (λ (f : Fields). Fit f) (sym w.3) (record { created_path = k.created_path; copy_from = k.copy_from; copy_root = k.copy_root })
put_fits (Some Count) value s t w k = subst (λ (f : Fields). Fit f) (sym w.3) (record { created_path = k.created_path; copy_from = k.copy_from; copy_root = k.copy_root })
put_fits (Some Text) value s t w k = subst (λ (f : Fields). Fit f) (sym w.3) (record { created_path = k.created_path; copy_from = k.copy_from; copy_root = k.copy_root })
put_fits (Some Props) value s t w k = subst (λ (f : Fields). Fit f) (sym w.3) (record { created_path = k.created_path; copy_from = k.copy_from; copy_root = k.copy_root })
put_fits (Some CreatedPath) value s t w k = subst (λ (f : Fields). Fit f) (sym w.3) (record { created_path = w.2.path_is; copy_from = k.copy_from; copy_root = k.copy_root })
put_fits (Some CopiedFrom) value s t w k = subst (λ (f : Fields). Fit f) (sym w.3) (record { created_path = k.created_path; copy_from = source_fits value w.1 w.2; copy_root = k.copy_root })
put_fits (Some CopiedRoot) value s t w k = subst (λ (f : Fields). Fit f) (sym w.3) (record { created_path = k.created_path; copy_from = k.copy_from; copy_root = root_fits value w.1 w.2 })
put_fits (Some FreshTxnRoot) value s t w k = subst (λ (f : Fields). Fit f) (sym w.3) (record { created_path = k.created_path; copy_from = k.copy_from; copy_root = k.copy_root })
put_fits (Some MergeinfoCount) value s t w k = subst (λ (f : Fields). Fit f) (sym w.3) (record { created_path = k.created_path; copy_from = k.copy_from; copy_root = k.copy_root })
put_fits (Some MergeinfoHere) value s t w k = subst (λ (f : Fields). Fit f) (sym w.3) (record { created_path = k.created_path; copy_from = k.copy_from; copy_root = k.copy_root })

lines_fit : (lines : List (List ℕ × List ℕ)) (s t : Fields) → Takes s lines t → Fit s → Fit t
lines_fit [] s t w k = subst (λ (f : Fields). Fit f) (sym w) k
lines_fit (l ∷ ls) s t w k = lines_fit ls w.1 t w.3 (put_fits _ l.1 s w.1 w.2 k)

nothing_fits : Fit nothing
nothing_fits = record { created_path = tt; copy_from = tt; copy_root = tt }

read_fits : (bytes : List ℕ) (n : NodeRev) → IsRead bytes n → HasText n
read_fits bytes n w =
    let k = lines_fit w.begins.text.lines nothing w.fields w.begins.text.taken nothing_fits in
    let m = w.means in
    record {
      created_path = subst (λ (o : Option Path). FitsPath o) m.created_path k.created_path;
      copy_from = subst (λ (o : Option CopySource). FitsSource o) (sym m.copy_from) k.copy_from;
      copy_root = subst (λ (o : Option CopyRoot). FitsRoot o) (sym m.copy_root) k.copy_root;
    }

pub all_fit : (bytes : List ℕ) (r : Result NodeRev NodeError) → IfOk r (IsRead bytes) → IfOk r HasText
all_fit bytes (Ok n) w = read_fits bytes n w
all_fit bytes (Err e) w = tt
