-- Bytes that hold a draft are read as that draft.
use Rattle.std.proofs.Common.{◌≡◌, ℕ, true, false, List, [], ◌∷◌, ◌++◌, drop, refl, sym, ap, subst, ◌∙◌, arith}
use Rattle.std.specs.Prelude.{Ok, Option, Some, None}
use Rattle.std.proofs.lemmas.Bool.Decides.{nat_tests}
use Rattle.fsfs_base.specs.Paths.{PathName, Path}
use Rattle.fsfs_base.specs.declared.kind.Kind.TheVariants.{Dir}
use Rattle.fsfs_revision.specs.Told.{RevisionBytes}
use Rattle.fsfs_noderev.specs.declared.node_id.Place.{Place}
use Rattle.fsfs_noderev.specs.declared.node_id.Place.TheVariants as places
use Rattle.fsfs_noderev.specs.declared.node_id.NodeId.{NodeId}
use Rattle.fsfs_noderev.specs.declared.rep.Rep.{Rep}
use Rattle.fsfs_noderev.specs.declared.rep.Contents.{Contents}
use Rattle.fsfs_noderev.specs.declared.rep.Contents.TheVariants as contents
use Rattle.fsfs_noderev.specs.declared.node_rev.NodeRev.{NodeRev}
use Rattle.fsfs_revision.specs.Rep.Frames.{RepIn, rev_of}
use Rattle.fsfs_revision.specs.Nodes.{IsNodeAt, is_root, is_before, place_before}
use Rattle.fsfs_revision.specs.Damage.Damages.{place_of}
use Rattle.fsfs_revision.specs.declared.damage.RevOffset.{RevOffset}
use Rattle.fsfs_revision.specs.Shows.Reading.{NodeAt, RootOf, offset_of, OfContents, Pairs, AreEntries, EntriesAt, EntriesOf, OfId, DirEntry, OfNamed, named, ChildOf}
use Rattle.fsfs_revision.proofs.Earlier.{stands_of_id}
use Rattle.fsfs_draft.specs.OwnSides.{NodesAt, in_txn}
use Rattle.fsfs_draft.specs.NodeDrafts.{IsOwn, IsDraft}
use Rattle.fsfs_final.specs.Directories.{ReadsAsDraft}
use Rattle.fsfs_final.specs.Bytes.{LeadsTo, Listed, Written, Inherited, Bare, HoldsDraft, HeldDraftsAreRead}

-- what stands before a place stands before a later one
before_trans : (a b : RevOffset) (p : Place) → place_before a p ≡ true → is_before a.rev a.offset b ≡ true → place_before b p ≡ true
before_trans a b (places.At rev offset) h g = grind (arith, nat_tests)
before_trans a b (places.In txn) h g = absurd cc

-- the same pairs are the entries of a directory that stands later
entries_later : (a b : RevOffset) (pairs : Pairs) (entries : List DirEntry) → is_before a.rev a.offset b ≡ true → AreEntries a pairs entries → AreEntries b pairs entries
entries_later a b [] [] g w = w
entries_later a b [] (e ∷ entries) g w = absurd w
entries_later a b (p ∷ pairs) [] g w = absurd w
entries_later a b (p ∷ pairs) (e ∷ entries) g w =
    (record { name = w.0.name; name_is = w.0.name_is; value_is = w.0.value_is; before = before_trans a b e.id.place w.0.before g }, entries_later a b pairs entries g w.1)

later_of : (look : RevisionBytes) (a b : RevOffset) (o : Option Contents) (entries : List DirEntry) → is_before a.rev a.offset b ≡ true → OfContents [] (EntriesAt look a) o (Ok entries) → OfContents [] (EntriesAt look b) o (Ok entries)
later_of look a b None entries g w = w
later_of look a b (Some contents.Own) entries g w = absurd w
later_of look a b (Some (contents.At rep)) entries g w = (w.0, w.1, entries_later a b w.0 entries g w.2)

named_entry : (look : RevisionBytes) (entries : List DirEntry) (name : PathName) (u : NodeRev) → LeadsTo name entries u.id u.kind → OfId look u.id (Ok u) → OfNamed look (named name entries) (Ok (Some u))
named_entry look entries name u l of =
    subst (λ (o : Option DirEntry). OfNamed look o (Ok (Some u))) (sym l.1)
    (u, subst (λ (i : NodeId). OfId look i (Ok u)) (sym l.2) of, (refl, sym l.3))

named_none : (look : RevisionBytes) (entries : List DirEntry) (name : PathName) → named name entries ≡ None → OfNamed look (named name entries) (Ok None)
named_none look entries name e = subst (λ (o : Option DirEntry). OfNamed look o (Ok None)) (sym e) refl

module _ (look : RevisionBytes) (top n : ℕ) (bytes : List ℕ) (own : NodesAt) (done : Path → NodeRev) (off : Path → ℕ) (draft : IsDraft look top top own) (holds : HoldsDraft look n bytes own done off) where
  node_at : (p : Path) (u : NodeRev) → own p ≡ Some u → IsOwn u → OfId look (done p).id (Ok (done p))
  node_at p u e mine =
      let here : NodeAt look (place_of n (off p)) (Ok (done p)) = (bytes, holds.bytes_are, holds.node p u e mine) in
      (done p, subst (λ (x : Place). NodeAt look (offset_of x) (Ok (done p))) (sym (holds.place p u e mine)) here, (refl, refl))

  lasting_at : (p : Path) (u : NodeRev) → own p ≡ Some u → in_txn u.id.place ≡ false → OfId look u.id (Ok u)
  lasting_at p u e plain = let l = draft.lasting p u e plain in stands_of_id look l.0 l.1 u l.3

  -- a directory's list
  entries_of : (p : Path) (rep : Rep) (text : List ℕ) (pairs : Pairs) (entries : List DirEntry) → (done p).text ≡ Some (contents.At rep) → rev_of rep ≡ n → RepIn rep bytes (Ok text)
      → Rattle.fsfs_layout.specs.Hash.Dump.IsDump text pairs → AreEntries (offset_of (done p).id.place) pairs entries → EntriesOf look (done p) (Ok entries)
  entries_of p rep text pairs entries t r i d a =
      subst (λ (o : Option Contents). OfContents [] (EntriesAt look (offset_of (done p).id.place)) o (Ok entries)) (sym t)
      (pairs, (text, (bytes, (ap look r ∙ holds.bytes_are), i), d), a)

  inherited : (p : Path) (w : NodeRev) (name : PathName) (o : Option NodeRev) → (done p).text ≡ w.text → is_before (offset_of w.id.place).rev (offset_of w.id.place).offset (offset_of (done p).id.place) ≡ true → ChildOf look w name (Ok o) → ChildOf look (done p) name (Ok o)
  inherited p w name o t b c =
      (c.0, subst (λ (x : Option Contents). OfContents [] (EntriesAt look (offset_of (done p).id.place)) x (Ok c.0)) (sym t) (later_of look (offset_of w.id.place) (offset_of (done p).id.place) w.text c.0 b c.1), c.2)

  bare : (p : Path) → (done p).text ≡ None → EntriesOf look (done p) (Ok [])
  bare p t = subst (λ (o : Option Contents). OfContents [] (EntriesAt look (offset_of (done p).id.place)) o (Ok [])) (sym t) refl

  lacking : (p : Path) (name : PathName) (u : NodeRev) → own p ≡ Some u → IsOwn u → u.kind ≡ Dir → own (p ++ name ∷ []) ≡ None → ChildOf look (done p) name (Ok None)
  lacking p name u e mine kind none = by (holds.list p u e mine kind)
    where
      by : Listed look n bytes own done p u → ChildOf look (done p) name (Ok None)
      by (Written rep text pairs entries t r i d a lists) = (entries, entries_of p rep text pairs entries t r i d a, named_none look entries name (lists.none name none))
      by (Inherited w back k t b lacks has) = inherited p w name None t b (lacks name none)
      by (Bare t lacks) = ([], bare p t, refl)

  dir_of : (p : Path) (name : PathName) (u w : NodeRev) → own p ≡ Some u → own (p ++ name ∷ []) ≡ Some w → u.kind ≡ Dir
  dir_of p name u w e f = let a = draft.above p name w f in subst (λ (z : NodeRev). z.kind ≡ Dir) (let g = sym a.1 ∙ e in let same : a.0 ≡ u = cc in same) a.2

  mine_in : (p : Path) (name : PathName) (u w : NodeRev) → own p ≡ Some u → IsOwn u → own (p ++ name ∷ []) ≡ Some w → IsOwn w → ChildOf look (done p) name (Ok (Some (done (p ++ name ∷ []))))
  mine_in p name u w e mine f mine2 = by (holds.list p u e mine (dir_of p name u w e f))
    where
      by : Listed look n bytes own done p u → ChildOf look (done p) name (Ok (Some (done (p ++ name ∷ []))))
      by (Written rep text pairs entries t r i d a lists) =
          let l = lists.mine name w f mine2 in (
            entries,
            entries_of p rep text pairs entries t r i d a,
            named_entry look entries name (done (p ++ name ∷ [])) (l.0, l.1, l.2, l.3 ∙ sym (holds.final (p ++ name ∷ []) w f mine2).kind) (node_at (p ++ name ∷ []) w f mine2),
          )
      by (Inherited x back k t b lacks has) = absurd (let g = (has name w f).0 in let q = sym g ∙ mine2 in absurd cc)
      by (Bare t lacks) = absurd (let g = sym (lacks name) ∙ f in cc)

  lasting_in : (p : Path) (name : PathName) (u w : NodeRev) → own p ≡ Some u → IsOwn u → own (p ++ name ∷ []) ≡ Some w → in_txn w.id.place ≡ false → ChildOf look (done p) name (Ok (Some w))
  lasting_in p name u w e mine f plain = by (holds.list p u e mine (dir_of p name u w e f))
    where
      by : Listed look n bytes own done p u → ChildOf look (done p) name (Ok (Some w))
      by (Written rep text pairs entries t r i d a lists) = (entries, entries_of p rep text pairs entries t r i d a, named_entry look entries name w (lists.lasting name w f plain) (lasting_at (p ++ name ∷ []) w f plain))
      by (Inherited x back k t b lacks has) = inherited p x name (Some w) t b (has name w f).1
      by (Bare t lacks) = absurd (let g = sym (lacks name) ∙ f in cc)

  root_of : RootOf look n (Ok (done []))
  root_of =
      let at : IsNodeAt (place_of n (off [])) (drop (off []) bytes) (done []) = holds.node [] draft.root.0 draft.root.2 draft.root.4 in (
        bytes,
        holds.bytes_are,
        (
          holds.trailer,
          holds.ends,
          (done [], subst (λ (k : ℕ). IsNodeAt (place_of n k) (drop k bytes) (done [])) (sym holds.root_at) at, (refl, subst (λ (k : ℕ). is_root (place_of n k) (done []) ≡ true) (sym holds.root_at) holds.root_is)),
        ),
      )

  pub reads : ReadsAsDraft look n own done
  reads = record {
    final = holds.final;
    root = root_of;
    lacking = lacking;
    mine = mine_in;
    lasting = lasting_in;
    apart = λ p q u w e f mine mine2 same. holds.apart p q u w e f mine mine2 (offset_same p q u w e f mine mine2 same);
  }
    where
      offset_same : (p q : Path) (u w : NodeRev) → own p ≡ Some u → own q ≡ Some w → IsOwn u → IsOwn w → done p ≡ done q → off p ≡ off q
      offset_same p q u w e f mine mine2 same =
          let g = sym (holds.place p u e mine) ∙ ap (λ (z : NodeRev). z.id.place) same ∙ holds.place q w f mine2 in
          ap (λ (x : Place). (offset_of x).offset) g

pub held_drafts_are_read : HeldDraftsAreRead
held_drafts_are_read look top n bytes own done off draft holds = reads look top n bytes own done off draft holds
