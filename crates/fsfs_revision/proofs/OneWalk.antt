-- What is named, a child, and what is met at a path are read in one way at most.
use Rattle.std.proofs.Common.{◌≡◌, ℕ, suc, [], ◌∷◌, sym, ap, ◌∙◌}
use Rattle.std.specs.Prelude.{Result, Ok, Err, Option, Some, None}
use Rattle.fsfs_base.specs.Paths.{PathName, Path}
use Rattle.fsfs_base.specs.declared.kind.Kind.{Kind}
use Rattle.fsfs_base.specs.declared.kind.Kind.TheVariants.{File, Dir}
use Rattle.fsfs_revision.specs.Told.{RevisionBytes}
use Rattle.fsfs_noderev.specs.declared.node_id.NodeId.{NodeId}
use Rattle.fsfs_noderev.specs.declared.node_rev.NodeRev.{NodeRev}
use Rattle.fsfs_revision.specs.declared.wrong.Wrong.{Wrong}
use Rattle.fsfs_revision.specs.Damage.Readings.{HasOneAnswer}
use Rattle.fsfs_revision.specs.Shows.Reading.{offset_of, NodeAt, RootOf, RepAt, PairsAt, TextOf, PropsOf, HasId, id_checks, OfId, DirEntry, kind_checks, HasKind, OfEntry, named, EntriesOf, OfNamed, ChildOf, Met, Stands, OrLacking, InDirectory, MetFrom, MetAt, StandsAt}
use Rattle.fsfs_revision.proofs.OneAnswer.{ok_ap, err_ap, ok_same, and_then_one, judged_one}
use Rattle.fsfs_revision.proofs.OneStep.{contents_one}
use Rattle.fsfs_revision.proofs.OneNode.{node_at_one, root_of_one}
use Rattle.fsfs_revision.proofs.OneRep.{rep_at_one, pairs_at_one}
use Rattle.fsfs_revision.proofs.OneEntry.{entries_one}

pub text_one : (look : RevisionBytes) (v : NodeRev) → HasOneAnswer (TextOf look v)
text_one look v = contents_one [] (RepAt look) (rep_at_one look) v.text

pub props_one : (look : RevisionBytes) (v : NodeRev) → HasOneAnswer (PropsOf look v)
props_one look v = contents_one [] (PairsAt look) (pairs_at_one look) v.props

has_id_one : (id : NodeId) (u : NodeRev) → HasOneAnswer (HasId id u)
has_id_one id u = judged_one (λ (v : NodeRev). (v ≡ u) × (u.id ≡ id)) (id_checks id u) (λ v w a b. a.0 ∙ sym b.0) (λ v a. (a.1, tt))

pub of_id_one : (look : RevisionBytes) (id : NodeId) → HasOneAnswer (OfId look id)
of_id_one look id = and_then_one (NodeAt look (offset_of id.place)) (HasId id) (node_at_one look (offset_of id.place)) (has_id_one id)

has_kind_one : (entry : DirEntry) (u : NodeRev) → HasOneAnswer (HasKind entry u)
has_kind_one entry u = judged_one (λ (v : NodeRev). (v ≡ u) × (u.kind ≡ entry.kind)) (kind_checks entry u) (λ v w a b. a.0 ∙ sym b.0) (λ v a. (a.1, tt))

pub of_entry_one : (look : RevisionBytes) (entry : DirEntry) → HasOneAnswer (OfEntry look entry)
of_entry_one look entry = and_then_one (OfId look entry.id) (HasKind entry) (of_id_one look entry.id) (has_kind_one entry)

of_named_one : (look : RevisionBytes) (o : Option DirEntry) → HasOneAnswer (OfNamed look o)
of_named_one look None a b g h = g ∙ sym h
of_named_one look (Some entry) (Ok None) b g h = absurd g
of_named_one look (Some entry) (Ok (Some u)) (Ok None) g h = absurd h
of_named_one look (Some entry) (Ok (Some u)) (Ok (Some v)) g h = ok_ap (Some u) (Some v) (ap (λ (x : NodeRev). Some x) (ok_same u v (of_entry_one look entry (Ok u) (Ok v) g h)))
of_named_one look (Some entry) (Ok (Some u)) (Err w) g h = let e = of_entry_one look entry (Ok u) (Err w) g h in absurd cc
of_named_one look (Some entry) (Err w) (Ok None) g h = absurd h
of_named_one look (Some entry) (Err w) (Ok (Some u)) g h = let e = of_entry_one look entry (Err w) (Ok u) g h in absurd cc
of_named_one look (Some entry) (Err v) (Err w) g h = let e = of_entry_one look entry (Err v) (Err w) g h in err_ap v w (let f : v ≡ w = cc in f)

pub child_one : (look : RevisionBytes) (v : NodeRev) (name : PathName) → HasOneAnswer (ChildOf look v name)
child_one look v name = and_then_one (EntriesOf look v) (λ entries. OfNamed look (named name entries)) (entries_one look v) (λ entries. of_named_one look (named name entries))

or_lacking_one : (depth : ℕ) (R : NodeRev → Result Met Wrong → Type 0) → ((v : NodeRev) → HasOneAnswer (R v)) → (o : Option NodeRev) → HasOneAnswer (OrLacking depth R o)
or_lacking_one depth R each None a b g h = g ∙ sym h
or_lacking_one depth R each (Some v) a b g h = each v a b g h

in_directory_one : (kind : Kind) (depth : ℕ) (R : Result (Option NodeRev) Wrong → Type 0) (S : NodeRev → Result Met Wrong → Type 0) → HasOneAnswer R → ((v : NodeRev) → HasOneAnswer (S v)) → HasOneAnswer (InDirectory kind depth R S)
in_directory_one File depth R S one each a b g h = g ∙ sym h
in_directory_one Dir depth R S one each a b g h = and_then_one R (OrLacking (suc depth) S) one (or_lacking_one (suc depth) S each) a b g h

pub met_from_one : (look : RevisionBytes) (v : NodeRev) (depth : ℕ) (path : Path) → HasOneAnswer (MetFrom look v depth path)
met_from_one look v depth [] a b g h = g ∙ sym h
met_from_one look v depth (name ∷ names) a b g h =
    in_directory_one v.kind depth (ChildOf look v name) (λ w. MetFrom look w (suc depth) names) (child_one look v name) (λ w. met_from_one look w (suc depth) names) a b g h

pub met_at_one : (look : RevisionBytes) (rev : ℕ) (path : Path) → HasOneAnswer (MetAt look rev path)
met_at_one look rev path = and_then_one (RootOf look rev) (λ v. MetFrom look v 0 path) (root_of_one look rev) (λ v. met_from_one look v 0 path)

pub met_same : (look : RevisionBytes) (rev : ℕ) (path : Path) (a b : Met) → MetAt look rev path (Ok a) → MetAt look rev path (Ok b) → a ≡ b
met_same look rev path a b g h = ok_same a b (met_at_one look rev path (Ok a) (Ok b) g h)

pub stands_same : (look : RevisionBytes) (rev : ℕ) (path : Path) (v w : NodeRev) → StandsAt look rev path v → StandsAt look rev path w → v ≡ w
stands_same look rev path v w g h = let e = met_same look rev path (Stands v) (Stands w) g h in cc
