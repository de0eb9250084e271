-- What is read of the entries of a directory that stands in a revision, or in a transaction's draft.
use Rattle.std.proofs.Common.{◌≡◌, ◌∙◌, ◌≤◌, ℕ, Bool, true, false, cond, List, [], ◌∷◌, ◌++◌, Option, Some, None, Ok, Err, refl, sym, ap, subst, inl, inr, arith, append_assoc}
use Rattle.std.specs.Prelude.{option_map, is_some, if◌then◌else◌, Result}
use Rattle.fsfs_base.specs.Paths.{PathName, Path}
use Rattle.fsfs_base.specs.declared.kind.Kind.{Kind}
use Rattle.fsfs_base.specs.declared.kind.Kind.TheVariants.{Dir}
use Rattle.fsfs_tree.specs.Nodes.{Node, TreeFunction}
use Rattle.fsfs_base.specs.declared.fields.txn_name.TxnName.{TxnName}
use Rattle.fsfs_base.proofs.ResultLemmas.{none_of}
use Rattle.fsfs_revision.specs.declared.wrong.Wrong.{Wrong}
use Rattle.fsfs_revision.proofs.OneAnswer.{ok_same, ok_no_err}
use Rattle.fsfs_revision.specs.Told.{RevisionBytes}
use Rattle.fsfs_noderev.specs.declared.node_id.Place.{Place}
use Rattle.fsfs_noderev.specs.declared.node_rev.NodeRev.{NodeRev}
use Rattle.fsfs_revision.specs.Shows.Reading.{DirEntry, named, EntriesOf, OfId, offset_of}
use Rattle.fsfs_revision.proofs.OneWalk.{of_id_one}
use Rattle.fsfs_draft.specs.Own.{OwnNode, Own, has_entry, draft_tree}
use Rattle.fsfs_draft.specs.OwnSides.{NodesAt, in_txn}
use Rattle.fsfs_draft.specs.Drafts.{Kept, Folder, kept_of, IsDraft, ShowTrees, bare}
use Rattle.fsfs_draft.specs.Rules.{IsEntryOf, head_at}
use Rattle.fsfs_draft.specs.Steps.{kept_at, EntriesHere, Listed, Read, Empty}
use Rattle.fsfs_draft.specs.Met.{draft_nodes, AreNodes}
use Rattle.fsfs_draft.proofs.Hanging.{Hangs}
use Rattle.fsfs_draft.proofs.Here.{under_is, are_here}
use Rattle.fsfs_draft.proofs.HangLaw as hanging
use Rattle.fsfs_draft.proofs.Placing as placing
use Rattle.fsfs_draft.specs.Entries.{OfKind, OfKept}
use Rattle.fsfs_draft.proofs.OwnEntries.{pred_within, entries_here, entries_never, lacks_node}
use Rattle.fsfs_merge.specs.Clash.Lists.{target_named}
use Rattle.fsfs_merge.specs.Clash.Readings.{kept_in, NodeOfKept, NodeOf, ListOfKept, ListOf, IsKeptIn, IsIn}
use Rattle.fsfs_merge.specs.Clash.Threes.{entry_target, node_target}

-- an entry leads to a node-revision
leads : (o : Option DirEntry) (n : Option NodeRev) (e : DirEntry) (u : NodeRev) → o ≡ Some e → n ≡ Some u → e.id ≡ u.id → e.kind ≡ u.kind → option_map entry_target o ≡ option_map node_target n
leads o n e u is there id kind =
    let same : Some (entry_target e) ≡ Some (node_target u) = λ i. Some (record { kind = kind i; id = id i }) in
    ap (option_map entry_target) is ∙ same ∙ sym (ap (option_map node_target) there)

nothing : (o : Option DirEntry) (n : Option NodeRev) → o ≡ None → n ≡ None → option_map entry_target o ≡ option_map node_target n
nothing o n is there = ap (option_map entry_target) is ∙ sym (ap (option_map node_target) there)

-- ---- in a revision

module _ (look : RevisionBytes) (top : ℕ) (S : Path → NodeRev → Type 0) (nodes : NodesAt) (tree : TreeFunction) (hangs : Hangs look top S nodes tree) where
  pub names_of : (q : Path) (u : NodeRev) (entries : List DirEntry) → S q u → u.kind ≡ Dir → EntriesOf look u (Ok entries) → (name : PathName) → target_named entries name ≡ option_map node_target (nodes (q ++ name ∷ []))
  names_of q u entries at dir of name = by (named name entries) refl
    where
      none : tree (q ++ name ∷ []) ≡ None → (o : Option NodeRev) → nodes (q ++ name ∷ []) ≡ o → nodes (q ++ name ∷ []) ≡ None
      none lacks None e = e
      none lacks (Some w) e =
          let n = hangs.agrees.shown (q ++ name ∷ []) w ((hangs.are (q ++ name ∷ []) w).0 e) in
          let clash : None ≡ Some n.0 = sym lacks ∙ n.1 in
          absurd cc

      by : (o : Option DirEntry) → named name entries ≡ o → target_named entries name ≡ option_map node_target (nodes (q ++ name ∷ []))
      by None is = nothing (named name entries) (nodes (q ++ name ∷ [])) is (none (hangs.agrees.lacks q u entries name [] at dir of is) (nodes (q ++ name ∷ [])) refl)
      by (Some e) is =
          let c = hangs.agrees.child q u entries name e at dir of is in
          leads (named name entries) (nodes (q ++ name ∷ [])) e c.0 is ((hangs.are (q ++ name ∷ []) c.0).1 c.1) (sym c.2.id) (sym c.2.kind)

-- ---- in a draft

-- what is read of the node-revision that is met at a path
pub record IsOwnRead (look : RevisionBytes) (top : ℕ) (f : Folder) (met : NodesAt) (p : Path) (v : NodeRev) : Type 0 where
  pub node : NodeOf look f v.id (Ok v)
  pub within : v.kind ≡ Dir → IsIn top f v.id
  pub names : v.kind ≡ Dir → (entries : List DirEntry) → ListOf look f v.id (Ok entries) → (name : PathName) → target_named entries name ≡ option_map node_target (met (p ++ name ∷ []))
  pub never : v.kind ≡ Dir → (w : Wrong) → ListOf look f v.id (Err w) → ⊥

bare_none : (o d : Option Node) → bare o ≡ bare d → d ≡ None → is_some o ≡ false
bare_none None d same none = refl
bare_none (Some n) d same none = let e = same ∙ ap bare none in absurd cc

module _ (look : RevisionBytes) (top base : ℕ) (trees : ℕ → TreeFunction) (nodes : ℕ → NodesAt) (shown : ShowTrees look top trees) (are : AreNodes look top nodes) (le : base ≤ top)
    (txn : TxnName) (f : Folder) (own : Own) (draft : IsDraft look top base txn f own) (tree : TreeFunction) (each : (p : Path) → bare (tree p) ≡ bare (draft_tree trees own (trees base) p))
    (paths : (p : Path) → is_some (draft_nodes nodes own (nodes base) p) ≡ is_some (tree p)) where
  abbrev met : NodesAt
  met = draft_nodes nodes own (nodes base)

  -- where the draft's tree has nothing, nothing is met
  none_met : (q : Path) → draft_tree trees own (trees base) q ≡ None → met q ≡ None
  none_met q none = none_of (met q) (paths q ∙ bare_none (tree q) (draft_tree trees own (trees base) q) (each q) none)

  -- ---- the transaction's own

  module _ (p : Path) (d : OwnNode) (here : own p ≡ Some d) where
    kept_here : kept_in f d.node.id ≡ Some (kept_of d)
    kept_here = ap (λ (b : Bool). if b then kept_at f.nodes d.node.id else None) (hanging.is_mine look top base trees nodes shown are le txn f own draft p d here) ∙ draft.kept p d here

    as_kept : (r : Result (List DirEntry) Wrong) → ListOf look f d.node.id r → OfKept look (kept_of d) r
    as_kept r of = subst (λ (o : Option Kept). ListOfKept look o d.node.id r) kept_here of

    has_listed : (entries : List DirEntry) (name : PathName) (e : DirEntry) → EntriesHere look (kept_of d) entries → named name entries ≡ Some e → has_entry d.entries name ≡ true
    has_listed entries name e (Listed is) named_is = ap (λ (o : Option (List DirEntry)). has_entry o name) is ∙ ap (λ (o : Option DirEntry). is_some o) named_is
    has_listed entries name e (Read id u none pred of read) named_is = ap (λ (o : Option (List DirEntry)). has_entry o name) none
    has_listed entries name e (Empty none no_pred empty) named_is = ap (λ (o : Option (List DirEntry)). has_entry o name) none

    own_names : d.node.kind ≡ Dir → (entries : List DirEntry) → EntriesHere look (kept_of d) entries → (name : PathName) → target_named entries name ≡ option_map node_target (met (p ++ name ∷ []))
    own_names dir entries listed name =
        by (named name entries) refl (own (p ++ name ∷ [])) refl
        (subst (λ (o : Option OwnNode). IsEntryOf (λ u. placing.Stands look top base trees nodes shown are le txn f own draft p d (name ∷ []) u) (named name entries) (head_at o)) (under_is p own (name ∷ []))
        ((are_here look top base trees shown le txn f own draft p d here entries dir listed).are name))
      where
        by : (o : Option DirEntry) → named name entries ≡ o → (v : Option OwnNode) → own (p ++ name ∷ []) ≡ v
            → IsEntryOf (λ u. placing.Stands look top base trees nodes shown are le txn f own draft p d (name ∷ []) u) (named name entries) (head_at (own (p ++ name ∷ []))) → target_named entries name ≡ option_map node_target (met (p ++ name ∷ []))
        by None is v there h =
            nothing (named name entries) (met (p ++ name ∷ [])) is (none_met (p ++ name ∷ []) (lacks_node look top base trees shown le txn f own draft p d here dir name entries listed is))
        by (Some e) is (Some w) there h =
            let k = subst (λ (o : Option DirEntry). IsEntryOf (λ u. placing.Stands look top base trees nodes shown are le txn f own draft p d (name ∷ []) u) o (head_at (Some w))) is
            (subst (λ (z : Option OwnNode). IsEntryOf (λ u. placing.Stands look top base trees nodes shown are le txn f own draft p d (name ∷ []) u) (named name entries) (head_at z)) there h) in
            leads (named name entries) (met (p ++ name ∷ [])) e w.node is (hanging.met_own look top base trees nodes shown are le txn f own draft (p ++ name ∷ []) w there) k.0 k.1
        by (Some e) is None there h =
            let k = subst (λ (o : Option DirEntry). IsEntryOf (λ u. placing.Stands look top base trees nodes shown are le txn f own draft p d (name ∷ []) u) o (head_at None)) is
            (subst (λ (z : Option OwnNode). IsEntryOf (λ u. placing.Stands look top base trees nodes shown are le txn f own draft p d (name ∷ []) u) (named name entries) (head_at z)) there h) in
            let n = ((hanging.hangs look top base trees nodes shown are le txn f own draft p d here).are (name ∷ []) k.0).1 k.1 in
            leads (named name entries) (met (p ++ name ∷ [])) e k.0 is
            (placing.met_shared look top base trees nodes shown are le txn f own draft p d here name [] there
            ∙ ap (λ (b : Bool). cond b (placing.nodes_below look top base trees nodes shown are le txn f own draft p d (name ∷ [])) None) (has_listed entries name e listed is) ∙ n) k.2 k.3

    own_read : IsOwnRead look top f met p d.node
    own_read = record {
      node = subst (λ (o : Option Kept). NodeOfKept look o d.node.id (Ok d.node)) (sym kept_here) refl;
      within = λ dir. record {
        rev = subst (λ (z : Place). (offset_of z).rev ≤ top) (sym (draft.places p d here)) (omega arith);
        kept = subst (λ (o : Option Kept). IsKeptIn top o) (sym kept_here) (pred_within look top base trees shown le txn f own draft p d here dir);
      };
      names = λ dir entries of. own_names dir entries (entries_here look top base trees shown le txn f own draft p d here dir entries (as_kept (Ok entries) of));
      never = λ dir w of. entries_never look top base trees shown le txn f own draft p d here dir w (as_kept (Err w) of);
    }

  -- ---- of a revision

  module _ (p : Path) (v : NodeRev) (plain : in_txn v.id.place ≡ false) (l : hanging.Lasts look top base trees nodes shown are le txn f own draft p v) where
    none_kept : kept_in f v.id ≡ None
    none_kept = ap (λ (b : Bool). if b then kept_at f.nodes v.id else None) plain

    abbrev here_hangs : Hangs look top (placing.Stands look top base trees nodes shown are le txn f own draft l.a l.d) (placing.nodes_below look top base trees nodes shown are le txn f own draft l.a l.d) (placing.tree_below look top base trees nodes shown are le txn f own draft l.a l.d)
    here_hangs = hanging.hangs look top base trees nodes shown are le txn f own draft l.a l.d l.here

    of_id : OfId look v.id (Ok v)
    of_id = here_hangs.agrees.read (l.x ∷ l.rest) v l.stands

    as_entries : v.kind ≡ Dir → (entries : List DirEntry) → ListOf look f v.id (Ok entries) → EntriesOf look v (Ok entries)
    as_entries dir entries of =
        let w = subst (λ (o : Option Kept). ListOfKept look o v.id (Ok entries)) none_kept of in
        let same : w.0 ≡ v = ok_same w.0 v (of_id_one look v.id (Ok w.0) (Ok v) w.1 of_id) in
        subst (λ (k : Kind). OfKind look k v (Ok entries)) dir (subst (λ (u : NodeRev). OfKind look u.kind u (Ok entries)) same w.2)

    lasting_never : v.kind ≡ Dir → (w : Wrong) → ListOf look f v.id (Err w) → ⊥
    lasting_never dir w of = elim (subst (λ (o : Option Kept). ListOfKept look o v.id (Err w)) none_kept of) [
      | inl h ↦ ok_no_err v w (of_id_one look v.id (Ok v) (Err w) of_id h)
      | inr h ↦ let same : h.0 ≡ v = ok_same h.0 v (of_id_one look v.id (Ok h.0) (Ok v) h.1 of_id) in
          here_hangs.agrees.never (l.x ∷ l.rest) v w l.stands dir (subst (λ (k : Kind). OfKind look k v (Err w)) dir (subst (λ (u : NodeRev). OfKind look u.kind u (Err w)) same h.2))
    ]

    met_below : (name : PathName) → met (p ++ name ∷ []) ≡ placing.nodes_below look top base trees nodes shown are le txn f own draft l.a l.d ((l.x ∷ l.rest) ++ name ∷ [])
    met_below name =
        ap (λ (q : Path). met (q ++ name ∷ [])) l.path ∙ ap met (append_assoc l.a (l.x ∷ l.rest) (name ∷ []))
        ∙ placing.met_shared look top base trees nodes shown are le txn f own draft l.a l.d l.here l.x (l.rest ++ name ∷ []) l.none
        ∙ ap (λ (b : Bool). cond b (placing.nodes_below look top base trees nodes shown are le txn f own draft l.a l.d (l.x ∷ (l.rest ++ name ∷ []))) None) l.has

    lasting_read : IsOwnRead look top f met p v
    lasting_read = record {
      node = subst (λ (o : Option Kept). NodeOfKept look o v.id (Ok v)) (sym none_kept) of_id;
      within = λ dir. record {
        rev = here_hangs.agrees.within (l.x ∷ l.rest) v l.stands;
        kept = subst (λ (o : Option Kept). IsKeptIn top o) (sym none_kept) tt;
      };
      names = λ dir entries of name.
          names_of look top (placing.Stands look top base trees nodes shown are le txn f own draft l.a l.d) (placing.nodes_below look top base trees nodes shown are le txn f own draft l.a l.d) (placing.tree_below look top base trees nodes shown are le txn f own draft l.a l.d)
          here_hangs (l.x ∷ l.rest) v entries l.stands dir (as_entries dir entries of) name ∙ ap (option_map node_target) (sym (met_below name));
      never = lasting_never;
    }

  -- ---- whatever is met

  pub met_read : (p : Path) (v : NodeRev) → met p ≡ Some v → IsOwnRead look top f met p v
  met_read p v e = by (in_txn v.id.place) refl
    where
      by : (b : Bool) → in_txn v.id.place ≡ b → IsOwnRead look top f met p v
      by true mine =
          let d = hanging.mine_at look top base trees nodes shown are le txn f own draft p v e mine in
          subst (λ (u : NodeRev). IsOwnRead look top f met p u) d.2 (own_read p d.0 d.1)
      by false plain = lasting_read p v plain (hanging.lasts look top base trees nodes shown are le txn f own draft p v e plain)
