-- Where the bytes show a tree, the text of a file is that of the node.
use Rattle.std.proofs.Common.{◌≡◌, ℕ, List, [], refl, sym, ap, subst, ◌∙◌, inl, inr}
use Rattle.std.specs.Prelude.{Ok, Err, Some}
use Rattle.fsfs_base.specs.Paths.{Path}
use Rattle.fsfs_tree.specs.Nodes.{Node, Content, Bytes, Closed, TreeFunction}
use Rattle.fsfs_base.specs.declared.kind.Kind.{Kind}
use Rattle.fsfs_base.specs.declared.kind.Kind.TheVariants.{File, Dir}
use Rattle.fsfs_revision.specs.Told.{RevisionBytes}
use Rattle.fsfs_tree.specs.Answers as answers
use Rattle.fsfs_tree.specs.Answers.{Found, found_at}
use Rattle.fsfs_noderev.specs.declared.node_rev.NodeRev.{NodeRev}
use Rattle.fsfs_revision.specs.declared.wrong.Wrong.{Wrong}
use Rattle.fsfs_revision.specs.Shows.Reading.{Met, Stands, Lacking, Blocked, MetAt, StandsAt}
use Rattle.fsfs_revision.specs.Shows.Shown.{Shows}
use Rattle.fsfs_revision.specs.Shows.ByTree.{IsTextByTree}
use Rattle.fsfs_revision.proofs.ByTree.{by_tree}
use Rattle.fsfs_stands.specs.declared.look_fault.LookFault.TheVariants as faults
use Rattle.fsfs_stands.specs.Texts.{End, Whole, Refused, Stopped, Nothing}
use Rattle.fsfs_stands.specs.FileTexts.{KindText, MetFileText, FileText}
use Rattle.fsfs_stands.specs.ByTree.{IsContent, IsFileOf, FilesAreByTree}
use Rattle.fsfs_stands.proofs.FoundAt.{IsFoundAs, node_at, never_wrong, found_as}

-- nothing, for this reason, is what a relation says of it
pub nothing_is : (R : List ℕ → End → Type 0) (why : End) (text : List ℕ) (end : End) → R [] why → Nothing why text end → R text end
nothing_is R why text end h none = subst (λ (t : List ℕ). R t end) (sym none.0) (subst (R []) (sym none.1) h)

stopped_content : (kind : Kind) (content : Content) → IsContent kind content [] Stopped
stopped_content Dir content = refl
stopped_content File (Bytes bytes) = (bytes, refl)
stopped_content File (Closed rev offset) = refl

stopped_file : (path : Path) (found : Found) → IsFileOf path found [] Stopped
stopped_file path (answers.Stands node) = stopped_content node.kind node.text
stopped_file path (answers.Lacking at) = refl
stopped_file path (answers.Blocked at) = refl

whole_content : (content : Content) (text : List ℕ) → content ≡ Bytes text → IsContent File content text Whole
whole_content (Bytes bytes) text is = let same : bytes ≡ text = cc in sym same
whole_content (Closed rev offset) text is = absurd cc

wrong_content : (content : Content) (w : Wrong) → IsTextByTree (Err w) content → IsContent File content [] (Refused (faults.Wrong w))
wrong_content (Bytes bytes) w is = absurd is
wrong_content (Closed rev offset) w is = (refl, ap (λ (x : Wrong). faults.Wrong x) is)

module _ (look : RevisionBytes) (rev : ℕ) (tree : TreeFunction) (shows : Shows look rev tree) (path : Path) where
  content_by_tree : (v : NodeRev) (n : Node) (kind : Kind) (text : List ℕ) (end : End) → StandsAt look rev path v → tree path ≡ Some n → v.kind ≡ kind → KindText look v kind text end → IsContent kind n.text text end
  content_by_tree v n Dir text end at there is t = nothing_is (IsContent Dir n.text) (Refused faults.NotFile) text end (refl, refl) t
  content_by_tree v n File text end at there is (inl none) = nothing_is (IsContent File n.text) Stopped text end (stopped_content File n.text) none
  content_by_tree v n File text end at there is (inr (inl whole)) =
      subst (IsContent File n.text text) (sym whole.1) (whole_content n.text text ((by_tree look rev tree shows).texts path v n (Ok text) at there is whole.0))
  content_by_tree v n File text end at there is (inr (inr w)) =
      nothing_is (IsContent File n.text) (Refused (faults.Wrong w.0)) text end (wrong_content n.text w.0 ((by_tree look rev tree shows).texts path v n (Err w.0) at there is w.1)) w.2

  met_file_by_tree : (m : Met) (found : Found) (text : List ℕ) (end : End) → MetAt look rev path (Ok m) → IsFoundAs tree path m found → MetFileText look m text end → IsFileOf path found text end
  met_file_by_tree (Stands v) found text end at is t =
      let n = node_at look rev tree shows path v at in
      let same : is.0 ≡ n.0 = (let e = sym is.1 ∙ n.1 in cc) in
      let kind : is.0.kind ≡ v.kind = ap (λ (x : Node). x.kind) same ∙ n.2.kind in
      subst (λ (f : Found). IsFileOf path f text end) (sym is.2)
      (subst (λ (k : Kind). IsContent k is.0.text text end) (sym kind) (content_by_tree v is.0 v.kind text end at is.1 refl t))
  met_file_by_tree (Lacking names) found text end at is t =
      subst (λ (f : Found). IsFileOf path f text end) (sym is) (nothing_is (IsFileOf path (answers.Lacking _)) (Refused (faults.NotFound names)) text end (refl, refl) t)
  met_file_by_tree (Blocked names) found text end at is t =
      subst (λ (f : Found). IsFileOf path f text end) (sym is) (nothing_is (IsFileOf path (answers.Blocked _)) (Refused (faults.NotDir names)) text end (refl, refl) t)

  file_by_tree : (text : List ℕ) (end : End) → FileText look rev path text end → IsFileOf path (found_at tree path) text end
  file_by_tree text end (inl none) = nothing_is (IsFileOf path (found_at tree path)) Stopped text end (stopped_file path (found_at tree path)) none
  file_by_tree text end (inr (inl w)) = absurd (never_wrong look rev tree shows path w.0 w.1)
  file_by_tree text end (inr (inr m)) = met_file_by_tree m.0 (found_at tree path) text end m.1 (found_as look rev tree shows path m.0 m.1) m.2

pub files_by_tree : FilesAreByTree
files_by_tree look rev tree path shows = file_by_tree look rev tree shows path
