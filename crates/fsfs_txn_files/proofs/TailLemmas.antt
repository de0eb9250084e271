-- A `children` file with one record more.
use Rattle.std.proofs.Common.{ℕ, List, [], ◌∷◌, ◌++◌, Option, Some, None, refl, sym, subst}
use Rattle.std.proofs.lemmas.List.{append-nil}
use Rattle.fsfs_base.specs.Paths.{PathName}
use Rattle.fsfs_base.specs.declared.kind.Kind.{Kind}
use Rattle.fsfs_noderev.specs.declared.node_id.NodeId.{NodeId}
use Rattle.fsfs_layout.specs.Hash.Dump.{Ascending, put, put_all}
use Rattle.fsfs_layout.specs.Hash.Children.{IsChildren, change_all, without}
use Rattle.fsfs_layout.proofs.ManyLoops.{children_put, children_without}
use Rattle.fsfs_revision.specs.Shows.Reading.{Pairs, DirEntry}
use Rattle.fsfs_txn_files.specs.Children.{IsWholeList, IsPutRecord, IsTakenRecord, Tells, ChildrenTell}
use Rattle.fsfs_dag.proofs.EntryPairs.{ordered_put, ordered_taken, lead_put, lead_taken}
use Rattle.fsfs_dag.specs.Entries.{HasPut, HasTaken}

ordered_all : (ps es : Pairs) → Ascending ps → Ascending (put_all ps es)
ordered_all ps [] order = order
ordered_all ps (e ∷ es) order = ordered_all (put ps e) es (ordered_put ps e.0 e.1 order)

ordered_changes : (ps : Pairs) (cs : List (List ℕ × Option (List ℕ))) → Ascending ps → Ascending (change_all ps cs)
ordered_changes ps [] order = order
ordered_changes ps ((key, None) ∷ cs) order = ordered_changes (without ps key) cs (ordered_taken ps key order)
ordered_changes ps ((key, Some value) ∷ cs) order = ordered_changes (put ps (key, value)) cs (ordered_put ps key value order)

-- read, its names are in byte order
ordered : (text : List ℕ) (ps : Pairs) → IsChildren text ps → Ascending ps
ordered text ps w = subst (λ (qs : Pairs). Ascending qs) (sym w.second_is.value_is) (ordered_changes (put_all [] w.between) w.second_is.inner (ordered_all [] w.between tt))

tells_whole : (entries : List DirEntry) (text : List ℕ) → IsWholeList entries text → Tells text entries
tells_whole entries text w = record {
  pairs = w.pairs;
  read = record {
    first = text;
    second = [];
    between = w.dump.inner;
    first_is = w.dump.inner_is;
    second_is = record { inner = []; inner_is = refl; value_is = w.dump.value_is };
    parts = sym (append-nil text);
  };
  lead = w.lead;
}

tells_put : (before text : List ℕ) (old new : List DirEntry) (name : PathName) (kind : Kind) (id : NodeId) → Tells before old → IsPutRecord name kind id text → HasPut old name kind id new → Tells (before ++ text) new
tells_put before text old new name kind id t r more = record {
  pairs = put t.pairs (name, r.value);
  read = children_put before (before ++ text) name r.value t.pairs t.read (record { text = text; text_is = r.text_is; parts = refl });
  lead = lead_put old new t.pairs (record { name = name; kind = kind; id = id }) r.value t.lead r.value_is more;
}

tells_taken : (before text : List ℕ) (old new : List DirEntry) (name : PathName) → Tells before old → IsTakenRecord name text → HasTaken old name new → Tells (before ++ text) new
tells_taken before text old new name t r less = record {
  pairs = without t.pairs name;
  read = children_without before (before ++ text) name t.pairs t.read (record { text = text; text_is = r; parts = refl });
  lead = lead_taken old new t.pairs name (ordered before t.pairs t.read) t.lead less;
}

pub tell : ChildrenTell
tell = record { whole = tells_whole; put = tells_put; taken = tells_taken }
