-- Readings one after another.
use Rattle.std.proofs.Common.{◌≡◌, List, [], Result, Ok, refl, sym, ap, subst}
use Rattle.std.specs.Prelude.{Option, Some, None}
use Rattle.std.specs.declared.vec.Vec.{Vec}
use Rattle.std.specs.declared.alloc.Global.{Global}
use Rattle.fsfs_base.specs.declared.kind.Kind.{Kind}
use Rattle.fsfs_base.specs.declared.kind.Kind.TheVariants.{File, Dir}
use Rattle.fsfs_revision.specs.Told.{RevisionBytes}
use Rattle.fsfs_noderev.specs.declared.node_id.NodeId.{NodeId}
use Rattle.fsfs_noderev.specs.declared.node_rev.NodeRev.{NodeRev}
use Rattle.fsfs_revision.specs.declared.wrong.Wrong.{Wrong}
use Rattle.fsfs_revision.specs.declared.wrong.ReadError.{ReadError}
use Rattle.fsfs_revision.specs.Damage.Readings.{Answers}
use Rattle.fsfs_revision.proofs.Answering.{answers_as}
use Rattle.fsfs_revision.specs.Shows.Reading.{DirEntry as EntryValue, EntriesOf, Pairs, named}
use Rattle.fsfs_dag.specs.declared.directory.DirEntry.{DirEntry}
use Rattle.fsfs_dag.proofs.PairLemmas.{entries_seen}
use Rattle.fsfs_draft.specs.Drafts.{Kept}
use Rattle.fsfs_draft.specs.Properties.{OfIdProps, OfPredecessorProps, OfSetProps, OfKeptProps}
use Rattle.fsfs_draft.specs.Entries.{OfKind, OfIdEntries, OfPredecessor, OfListed, OfKept, IsListedAs}

pub in_kind : (look : RevisionBytes) (v : NodeRev) (kind : Kind) (r : Result (List EntryValue) Wrong) → kind ≡ File → r ≡ Ok [] → OfKind look kind v r
in_kind look v kind r is h = subst (λ (k : Kind). OfKind look k v r) (sym is) h

pub in_dir : (look : RevisionBytes) (v : NodeRev) (kind : Kind) (r : Result (List EntryValue) Wrong) → kind ≡ Dir → EntriesOf look v r → OfKind look kind v r
in_dir look v kind r is h = subst (λ (k : Kind). OfKind look k v r) (sym is) h

-- what is read of a directory
pub as_dir : (look : RevisionBytes) (v : NodeRev) (kind : Kind) (result : Result (Vec DirEntry Global) ReadError) → kind ≡ Dir → Answers entries_seen (EntriesOf look v) result → Answers entries_seen (OfKind look kind v) result
as_dir look v kind result is h = answers_as entries_seen result (EntriesOf look v) (OfKind look kind v) (λ r. in_dir look v kind r is) h

-- what is read of an own directory without a `children` file
pub kept_reads : (look : RevisionBytes) (k : Kept) (id : NodeId) (result : Result (Vec DirEntry Global) ReadError) → k.entries ≡ None → k.node.predecessor ≡ Some id → Answers entries_seen (OfIdEntries look id) result → Answers entries_seen (OfKept look k) result
kept_reads look k id result none is h = answers_as entries_seen result (OfIdEntries look id) (OfKept look k) moved h
  where
    moved : (r : Result (List EntryValue) Wrong) → OfIdEntries look id r → OfKept look k r
    moved r g = subst (λ (o : Option (List EntryValue)). OfListed look o k.node.predecessor r) (sym none) (subst (λ (o : Option NodeId). OfPredecessor look o r) (sym is) g)

-- what is listed where there is no `children` file
pub predecessor_list : (look : RevisionBytes) (k : Kept) (id : NodeId) (entries : List EntryValue) → k.entries ≡ None → k.node.predecessor ≡ Some id → OfIdEntries look id (Ok entries) → OfKept look k (Ok entries)
predecessor_list look k id entries none is h =
    subst (λ (o : Option (List EntryValue)). OfListed look o k.node.predecessor (Ok entries)) (sym none) (subst (λ (o : Option NodeId). OfPredecessor look o (Ok entries)) (sym is) h)

-- what stands in a `children` file
pub own_list : (look : RevisionBytes) (k : Kept) (entries : List EntryValue) → k.entries ≡ Some entries → OfKept look k (Ok entries)
own_list look k entries is = subst (λ (o : Option (List EntryValue)). OfListed look o k.node.predecessor (Ok entries)) (sym is) refl

pub listed_own : (look : RevisionBytes) (k : Kept) (entries new : List EntryValue) → k.entries ≡ Some entries → new ≡ entries → IsListedAs look k new
listed_own look k entries new is same = record { entries = entries; of = own_list look k entries is; alike = λ y. ap (λ (l : List EntryValue). named y l) same }

-- what is read of an own node-revision without a `props` file
pub kept_props_read : (look : RevisionBytes) (k : Kept) (id : NodeId) (result : Result Pairs ReadError) → k.props ≡ None → k.node.predecessor ≡ Some id → Answers (λ (pairs : Pairs). pairs) (OfIdProps look id) result → Answers (λ (pairs : Pairs). pairs) (OfKeptProps look k) result
kept_props_read look k id result none is h = answers_as (λ (pairs : Pairs). pairs) result (OfIdProps look id) (OfKeptProps look k) moved h
  where
    moved : (r : Result Pairs Wrong) → OfIdProps look id r → OfKeptProps look k r
    moved r g = subst (λ (o : Option Pairs). OfSetProps look o k.node.predecessor r) (sym none) (subst (λ (o : Option NodeId). OfPredecessorProps look o r) (sym is) g)
