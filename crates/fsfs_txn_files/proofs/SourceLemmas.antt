-- What a source gave, piece after piece.
use Rattle.std.proofs.Common.{◌≡◌, ◌<◌, ℕ, List, [], ◌∷◌, ◌++◌, length, take, drop, Option, Some, None, refl, sym, ap, subst, ◌∙◌, append_assoc, arith}
use Rattle.std.proofs.lemmas.List.{take-append-drop}
use Rattle.fsfs_base.specs.Streams.{Takes}
use Rattle.fsfs_txn_files.specs.ProtoRev.Sources.{GivesFront, GivesAll}

pub front_none : (from : Option (List ℕ)) → GivesFront from from []
front_none None = tt
front_none (Some r) = (r, refl, refl)

-- a source that told nothing of itself may tell nothing later, but what it gave is not known then
pub front_more : (from mid to : Option (List ℕ)) (text piece : List ℕ) → GivesFront from mid text → GivesFront mid to piece → GivesFront from to (text ++ piece)
front_more None mid to text piece v w = tt
front_more (Some r) mid to text piece v w =
    let next : GivesFront (Some v.0) to piece = subst (λ (o : Option (List ℕ)). GivesFront o to piece) v.2 w in
    (next.0, v.1 ∙ ap (λ (t : List ℕ). text ++ t) next.1 ∙ sym (append_assoc text piece next.0), next.2)

pub front_all : (from mid to : Option (List ℕ)) (text piece : List ℕ) → GivesFront from mid text → GivesAll mid to piece → GivesAll from to (text ++ piece)
front_all None mid to text piece v w = tt
front_all (Some r) mid to text piece v w =
    let next : GivesAll (Some v.0) to piece = subst (λ (o : Option (List ℕ)). GivesAll o to piece) v.2 w in
    (v.1 ∙ ap (λ (t : List ℕ). text ++ t) next.0, next.1)

-- what a read of the source takes
pub read_front : (from to : Option (List ℕ)) (n : ℕ) (buffer : List ℕ) → Takes from to n buffer → GivesFront from to (take n buffer)
read_front None to n buffer t = tt
read_front (Some r) to n buffer t = (drop n r, sym (take-append-drop n r) ∙ ap (λ (s : List ℕ). s ++ drop n r) (sym t.0), t.2)
