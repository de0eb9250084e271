-- A node-revision, and a root, are read in one way at most.
use Rattle.std.proofs.Common.{◌≡◌, ℕ, List, [], ◌∷◌, ◌++◌, drop, take, sym, ap, subst, ◌∙◌, append_assoc}
use Rattle.std.specs.Prelude.{Result, Ok}
use Rattle.std.specs.List.{flat_map}
use Rattle.fsfs_base.proofs.Readers.{all_again}
use Rattle.fsfs_revision.specs.declared.damage.RevOffset.{RevOffset}
use Rattle.fsfs_revision.specs.Damage.Readings.{HasOneAnswer}
use Rattle.fsfs_revision.proofs.OneAnswer.{and_then_one}
use Rattle.fsfs_revision.specs.Told.{RevisionBytes, BytesOf}
use Rattle.fsfs_noderev.specs.Lines.{line}
use Rattle.fsfs_noderev.proofs.Taking.{read_only}
use Rattle.fsfs_revision.specs.Trailers.{IsTrailer, EndsWith}
use Rattle.fsfs_revision.specs.Damages.{NodeIn, RootIn}
use Rattle.fsfs_revision.specs.declared.trailer.Trailer.{Trailer}
use Rattle.fsfs_revision.proofs.TrailerLemmas.{trailer_reads, one_trailer}
use Rattle.fsfs_revision.proofs.DamageLemmas.{IsOne, node_in_one, root_in_one}
use Rattle.fsfs_revision.specs.Shows.Reading.{NodeAt, RootOf}
use Rattle.fsfs_revision.proofs.OneStep.{bytes_one}

-- ---- a node-revision

pub read_one : (bytes : List ℕ) → IsOne bytes
read_one bytes m n v w =
    let t = v.begins.text in
    let front : take 65536 bytes ≡ flat_map line t.lines ++ (10 ∷ v.rest) = v.begins.parts ∙ ap (λ (x : List ℕ). x ++ v.rest) t.parts ∙ append_assoc (flat_map line t.lines) (10 ∷ []) v.rest in
    read_only (take 65536 bytes) v.fields v.rest m n (t.lines, t.taken, front) v.means w

pub node_at_one : (look : RevisionBytes) (at : RevOffset) → HasOneAnswer (NodeAt look at)
node_at_one look at = and_then_one (BytesOf look at.rev) (λ bytes. NodeIn at (drop at.offset bytes)) (bytes_one look at.rev) (λ bytes. node_in_one at (drop at.offset bytes) (read_one (drop at.offset bytes)))

-- ---- the trailer

same_end : (f g s t : List ℕ) (p q : ℕ × ℕ) → IsTrailer s p → IsTrailer t q → f ++ s ≡ g ++ t → p ≡ q
same_end [] [] s t p q a b e =
    let one = all_again trailer_reads s p a in
    let two = all_again trailer_reads s q (subst (λ (x : List ℕ). IsTrailer x q) (sym e) b) in
    let three = sym one ∙ two in
    (let h : (let r : Result (ℕ × ℕ) ℕ = Ok p in r) ≡ Ok q = three in cc)
same_end [] (c ∷ g) s t p q a b e = absurd (one_trailer s t g c p q a b e)
same_end (c ∷ f) [] s t p q a b e = absurd (one_trailer t s f c q p b a (sym e))
same_end (c ∷ f) (d ∷ g) s t p q a b e = same_end f g s t p q a b (let h : f ++ s ≡ g ++ t = cc in h)

pub end_one : (begins : ℕ) (bytes : List ℕ) (t u : Trailer) → EndsWith begins bytes t → EndsWith begins bytes u → t ≡ u
end_one begins bytes t u v w =
    let e = same_end v.front w.front v.text w.text (t.root, t.changes) (u.root, u.changes) v.text_is w.text_is (sym v.parts ∙ w.parts) in
    λ i. record { root = ap (λ (p : ℕ × ℕ). p.0) e i; changes = ap (λ (p : ℕ × ℕ). p.1) e i }

-- ---- the root

pub root_of_one : (look : RevisionBytes) (rev : ℕ) → HasOneAnswer (RootOf look rev)
root_of_one look rev = and_then_one (BytesOf look rev) (RootIn rev) (bytes_one look rev) (λ bytes. root_in_one rev bytes (end_one 0 bytes) read_one)
