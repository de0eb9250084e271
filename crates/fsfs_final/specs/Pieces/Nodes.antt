-- A transaction's node-revision that was put, as it stands in the new revision, behind its lists.
use Rattle.std.specs.Prelude.{◌≡◌, ◌+◌, ◌<◌, ◌≤◌, ℕ, suc, List, ◌++◌, length, Option, Some, None}
use Rattle.fsfs_base.specs.Paths.{Path}
use Rattle.fsfs_base.specs.declared.fields.txn_name.TxnName.{TxnName}
use Rattle.fsfs_tree.specs.Nodes.{TreeFunction}
use Rattle.fsfs_model.specs.declared.flat.mark.Mark.{Mark}
use Rattle.fsfs_revision.specs.Told.{RevisionBytes}
use Rattle.fsfs_noderev.specs.NodeRevs.{IsNodeRev}
use Rattle.fsfs_noderev.specs.declared.node_id.Place.TheVariants as places
use Rattle.fsfs_noderev.specs.declared.rep.Rep.{Rep}
use Rattle.fsfs_noderev.specs.declared.rep.Contents.{Contents}
use Rattle.fsfs_noderev.specs.declared.rep.Contents.TheVariants as contents
use Rattle.fsfs_noderev.specs.declared.node_rev.NodeRev.{NodeRev}
use Rattle.fsfs_layout.specs.Hash.Dump.{IsDump, dump_text}
use Rattle.fsfs_revision.specs.Shows.Reading.{Pairs}
use Rattle.fsfs_draft.specs.Own.{OwnNode}
use Rattle.fsfs_draft.specs.Drafts.{Folder, ShowTrees}
use Rattle.fsfs_draft.specs.OwnSides.{NodesAt}
use Rattle.fsfs_draft.specs.Met.{AreNodes}
use Rattle.fsfs_draft.specs.Staying.{IsYoungest}
use Rattle.fsfs_draft.specs.Whole.{IsDraftOf}
use Rattle.fsfs_draft.specs.NodeDrafts.{IsOwn, IsDraft}
use Rattle.fsfs_final.specs.Final.{IsFinal}
use Rattle.fsfs_final.specs.Finishing.{finish}
use Rattle.fsfs_final.specs.Laid.{IsFramed, Laid, with_laid, IsLaid}
use Rattle.fsfs_final.specs.Pieces.Lists.{AreContentsPut, list_of}

-- its lists were put behind `old`, which begins at the offset `start` of revision n, and behind them its lines
pub record IsNodePut (n start : ℕ) (old new : List ℕ) (u : NodeRev) (entries props : Option Pairs) (v : NodeRev) : Type 0 where
  -- what stands before its properties, and before its lines
  pub mid : List ℕ
  pub front : List ℕ
  pub lines : List ℕ
  pub text_put : AreContentsPut n start old mid u.text entries v.text
  pub props_put : AreContentsPut n start mid front u.props props v.props
  pub finished : v ≡ finish n (start + length front) v.text v.props u
  pub is : IsNodeRev lines v
  pub short : length lines ≤ 65536
  pub added : new ≡ front ++ lines

-- ---- in the revision

-- a text stands in a revision before n, or in the prototype file
abbrev pub IsRepBefore : ℕ → ℕ → Option ℕ → ℕ → Type 0
IsRepBefore n start None offset = offset < start
IsRepBefore n start (Some rev) offset = rev < n

abbrev pub HasTextBefore : ℕ → ℕ → Option Contents → Type 0
HasTextBefore n start None = Unit {0}
HasTextBefore n start (Some contents.Own) = Unit {0}
HasTextBefore n start (Some (contents.At rep)) = IsRepBefore n start rep.rev rep.offset

-- the bytes of revision n have the list
pub record HasList (n : ℕ) (bytes : List ℕ) (is : Option Contents) (pairs : Pairs) : Type 0 where
  pub rep : Rep
  pub there : is ≡ Some (contents.At rep)
  pub rev_is : rep.rev ≡ Some n
  pub framed : IsFramed bytes rep (dump_text pairs)
  pub dump : IsDump (dump_text pairs) pairs

-- it is laid at its path, is final, and its lists are read
pub record IsNodeLaid (n : ℕ) (bytes : List ℕ) (laid : Laid) (p : Path) (u : NodeRev) (entries props : Option Pairs) (v : NodeRev) : Type 0 where
  pub off : ℕ
  pub place : v.id.place ≡ places.At n off
  pub placed : IsLaid n bytes (with_laid laid p off v)
  pub final : IsFinal n u v
  pub lists : u.text ≡ Some contents.Own → HasList n bytes v.text (list_of entries)
  pub sets : u.props ≡ Some contents.Own → HasList n bytes v.props (list_of props)

-- a draft's, behind the prototype file and what was laid before
abbrev pub PutNodesAreLaid : Type 0
PutNodesAreLaid = (look : RevisionBytes) (top start : ℕ) (own : NodesAt) (p : Path) (proto old new : List ℕ) (laid : Laid) (u v : NodeRev) (entries props : Option Pairs)
    → IsDraft look top top own → own p ≡ Some u → IsOwn u → length proto ≡ start → HasTextBefore (suc top) start u.text
    → IsLaid (suc top) (proto ++ old) laid → IsNodePut (suc top) start old new u entries props v → IsNodeLaid (suc top) (proto ++ new) laid p u entries props v

-- of a whole draft on the youngest revision each own node-revision's text stands before
abbrev pub DraftTextsStandBefore : Type 0
DraftTextsStandBefore = (look : RevisionBytes) (trees : ℕ → TreeFunction) (top : ℕ) (nodes : ℕ → NodesAt) (txn : TxnName) (f : Folder) (tree : TreeFunction) (marks : List Mark) → ShowTrees look top trees → AreNodes look top nodes → IsYoungest look top
    → (d : IsDraftOf look trees top top txn f tree marks) → (p : Path) (v : OwnNode) → d.shows.own p ≡ Some v → HasTextBefore (suc top) (length f.proto) v.node.text
