-- The name of what is read in a directory of a revision.
use Rattle.std.proofs.Common.{◌≡◌, ◌∙◌, Bool, true, false, cond, List, [], ◌∷◌, Option, Some, None, refl, sym, ap, subst}
use Rattle.std.specs.Prelude.{Ok}
use Rattle.fsfs_base.specs.Paths.{PathName, same_name}
use Rattle.fsfs_base.proofs.PathLemmas.{same_name-is}
use Rattle.fsfs_revision.specs.Told.{RevisionBytes}
use Rattle.fsfs_revision.specs.declared.damage.RevOffset.{RevOffset}
use Rattle.fsfs_revision.proofs.OneAnswer.{ok_same}
use Rattle.fsfs_noderev.specs.declared.rep.Contents.{Contents}
use Rattle.fsfs_noderev.specs.declared.rep.Contents.TheVariants as contents
use Rattle.fsfs_noderev.specs.declared.node_rev.NodeRev.{NodeRev}
use Rattle.fsfs_revision.specs.Shows.Reading.{Pairs, DirEntry, IsEntryName, AreEntries, EntriesAt, OfContents, OfNamed, ChildOf, named, offset_of}

in_list : (home : RevOffset) (name : PathName) (pairs : Pairs) (es : List DirEntry) (e : DirEntry) → AreEntries home pairs es → named name es ≡ Some e → IsEntryName name
in_list home name [] [] e w h = absurd (let clash : None ≡ Some e = h in cc)
in_list home name [] (x ∷ es) e w h = absurd w
in_list home name (p ∷ pairs) [] e w h = absurd w
in_list home name (p ∷ pairs) (x ∷ es) e w h = by (same_name x.name name) refl h (λ k. in_list home name pairs es e w.1 k)
  where
    by : (b : Bool) → same_name x.name name ≡ b → cond b (Some x) (named name es) ≡ Some e → (named name es ≡ Some e → IsEntryName name) → IsEntryName name
    by true same g further = subst IsEntryName (same_name-is x.name name same) w.0.name_is
    by false same g further = further g

of_contents : (look : RevisionBytes) (home : RevOffset) (name : PathName) (c : Option Contents) (entries : List DirEntry) (e : DirEntry) → OfContents [] (EntriesAt look home) c (Ok entries) → named name entries ≡ Some e → IsEntryName name
of_contents look home name None entries e w h =
    let none : entries ≡ [] = ok_same entries [] w in
    absurd (let clash : None ≡ Some e = sym (ap (named name) none) ∙ h in cc)
of_contents look home name (Some contents.Own) entries e w h = absurd w
of_contents look home name (Some (contents.At rep)) entries e w h = in_list home name w.0 entries e w.2 h

pub read_name : (look : RevisionBytes) (d v : NodeRev) (name : PathName) → ChildOf look d name (Ok (Some v)) → IsEntryName name
read_name look d v name w = by (named name w.0) refl w.2
  where
    by : (o : Option DirEntry) → named name w.0 ≡ o → OfNamed look o (Ok (Some v)) → IsEntryName name
    by None e is = absurd cc
    by (Some x) e is = of_contents look (offset_of d.id.place) name d.text w.0 x w.1 e
