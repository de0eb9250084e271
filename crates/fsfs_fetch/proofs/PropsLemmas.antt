-- Looks at property files: what they meet, and what a reader reads so.
use Rattle.std.proofs.Common.{◌≡◌, ◌≤◌, ◌<◌, ℕ, ◌-◌, List, length, take, min, refl, sym, ap, subst, ◌∙◌, inl, inr, arith}
use Rattle.std.specs.Prelude.{Option, Some, None, Result, Ok, Err, IfSome, IfOk, IfErr}
use Rattle.std.proofs.lemmas.Option.{same_Some}
use Rattle.std.proofs.lemmas.List.{length-take, take-take, take_all}
use Rattle.fsfs_base.specs.declared.failed.Failed.{Failed}
use Rattle.fsfs_layout.specs.declared.layout.Layout.{Layout}
use Rattle.fsfs_layout.specs.declared.repository_file.RepositoryFile.TheVariants as repository
use Rattle.fsfs_layout.specs.FileNames.{file_name}
use Rattle.fsfs_disk.specs.Trace.{Trace, IsRead, file_at, files_now}
use Rattle.fsfs_disk.proofs.WholeFiles.{read_bytes}
use Rattle.fsfs_revision.specs.declared.wrong.Refusal.{Refusal}
use Rattle.fsfs_revision.specs.declared.wrong.Refusal.TheVariants.{NoRev, Missing}
use Rattle.fsfs_revision.specs.declared.book.BookFault.{BookFault}
use Rattle.fsfs_revision.specs.declared.book.BookFault.TheVariants.{Refused, Short, DiskFault, OutOfMemory}
use Rattle.fsfs_revision.specs.RevBytes.{props_file, props_bytes, or_missing}
use Rattle.fsfs_revision.specs.RevProps.{ReadsOnly, IsLook, IfRefused}
use Rattle.fsfs_fetch.specs.Views.{Reach, Ends, Grows, IsYoungest, Extends}
use Rattle.fsfs_fetch.specs.Props.{MayMeet, MeetsNoMore, Met, may_read, owned_props}

-- ---- one look

take_least : (k n : ℕ) (bytes : List ℕ) → n ≡ min k (length bytes) → take n bytes ≡ take k bytes
take_least k n bytes is = sym (take-take n k bytes (omega (arith, is))) ∙ take_all n (take k bytes) (omega (arith, is, length-take k bytes))

-- a read from the beginning is a look at the file
pub look_of : (bytes old new : List ℕ) (n : ℕ) (found : Option ℕ) → IsRead (Some bytes) 0 old new found → found ≡ Some n → IsLook bytes old new n
look_of bytes old new n found read is =
    let most : ℕ = min (length old) (length bytes - 0) in
    let same : most ≡ n = same_Some most n (sym read.0 ∙ is) in
    let count : n ≡ min (length old) (length bytes) = omega (arith, same) in
    let got : take n new ≡ take n bytes = ap (λ (k : ℕ). take k new) (sym same) ∙ ap (take most) read.1 ∙ read_bytes bytes old 0 most (omega arith) ∙ ap (λ (k : ℕ). take k bytes) same in
    (got ∙ take_least (length old) n bytes count, count)

-- where nothing is known of the file, it may be just what was read
pub look_at_all : (old new : List ℕ) (n : ℕ) → n ≤ length new → length new ≡ length old → IsLook (take n new) old new n
look_at_all old new n le same =
    let short : length (take n new) ≡ n = omega (arith, le, length-take n new) in
    (sym (take_all (length old) (take n new) (omega (arith, le, same, short))), omega (arith, le, same, short))

-- what a read from the beginning meets, of a file that may be met
pub met_of : (may : Option (List ℕ) → Type 0) (file : Option (List ℕ)) (old new : List ℕ) (found : Option ℕ) → may file → IsRead file 0 old new found → Met may old new found
met_of may None old new None h read = h
met_of may None old new (Some n) h read = let e : None ≡ Some n = sym read.0 in cc
met_of may (Some bytes) old new None h read = let e : Some (min (length old) (length bytes - 0)) ≡ None = sym read.0 in cc
met_of may (Some bytes) old new (Some n) h read = (bytes, h, look_of bytes old new n (Some n) read refl)

-- ---- an owned disk

pub owned_fewer : (old new : Option Trace) (layout : Layout) → new ≡ old → MeetsNoMore (owned_props old layout) (owned_props new layout)
owned_fewer old new layout e rev file h = subst (λ (told : Option Trace). owned_props told layout rev file) e h

pub met_unknown : (may : Option (List ℕ) → Type 0) (old new : List ℕ) (found : Option ℕ) → ((file : Option (List ℕ)) → may file) → IfSome found (λ n. n ≤ length new) → length new ≡ length old → Met may old new found
met_unknown may old new None all le same = all None
met_unknown may old new (Some n) all le same = (take n new, all (Some (take n new)), look_at_all old new n le same)

pub owned_met : (told : Option Trace) (layout : Layout) (rev : ℕ) (name old new : List ℕ) (result : Result (Option ℕ) Failed) → name ≡ file_name layout (repository.Props rev) → length new ≡ length old
    → IfOk result (λ found. IfSome found (λ n. n ≤ length new)) → IfSome told (λ t. IfOk result (IsRead (file_at t name) 0 old new)) → IfOk result (Met (owned_props told layout rev) old new)
owned_met told layout rev name old new (Err e) named same le read = tt
owned_met None layout rev name old new (Ok found) named same le read = met_unknown (owned_props None layout rev) old new found (λ file. tt) le same
owned_met (Some t) layout rev name old new (Ok found) named same le read = met_of (owned_props (Some t) layout rev) (file_at t name) old new found (ap (file_at t) named) read

-- ---- a reader

youngest_before : (a b : Reach) (n : ℕ) → Extends a b → IsYoungest b n → IsYoungest a n
youngest_before (Ends y) b n e is = subst (λ (r : Reach). IsYoungest r n) e is
youngest_before (Grows k) (Ends y) n e is = omega (arith, e, is)
youngest_before (Grows k) (Grows m) n e is = omega (arith, e, is)

pub no_more : (old mid new : MayMeet) → MeetsNoMore old mid → MeetsNoMore mid new → MeetsNoMore old new
no_more old mid new f g rev file h = f rev file (g rev file h)

-- there is a revision, by the youngest
abbrev IsThere : Reach → ℕ → Type 0
IsThere reach rev = (n : ℕ) × IsYoungest reach n × (rev ≤ n)

module _ (a b : Reach) (old mid : MayMeet) (extends : Extends a b) (fewer : MeetsNoMore old mid) where
  -- what may be read later may be read now
  pub reads_no_more : (rev : ℕ) (read : Result (List ℕ) Refusal) → may_read b mid rev read → may_read a old rev read
  reads_no_more rev read (inl (n, is, above, e)) = inl (n, youngest_before a b n extends is, above, e)
  reads_no_more rev read (inr (n, is, le, file, may, e)) = inr (n, youngest_before a b n extends is, le, file, fewer rev file may, e)

  module _ (rev : ℕ) where
    pub text_met : (o w : List ℕ) (result : Result ℕ BookFault) → IsThere b rev → IfOk result (λ n. (text : List ℕ) × mid rev (Some text) × IsLook text o w n) → IfOk result (λ n. (text : List ℕ) × may_read a old rev (Ok text) × IsLook text o w n)
    text_met o w (Ok n) (y, is, le) (text, may, look) = (text, inr (y, youngest_before a b y extends is, le, Some text, fewer rev (Some text) may, refl), look)
    text_met o w (Err e) there h = tt

    pub none_met : {X : Type 0} (result : Result X BookFault) → IsThere b rev → IfErr result (λ e. IfRefused e (λ why. mid rev None × (why ≡ Missing rev))) → IfErr result (λ e. IfRefused e (λ why. may_read a old rev (Err why)))
    none_met (Ok n) there h = tt
    none_met (Err (Refused why)) (y, is, le) (may, same) = inr (y, youngest_before a b y extends is, le, None, fewer rev None may, ap (λ (r : Refusal). let read : Result (List ℕ) Refusal = Err r in read) same)
    none_met (Err (Short at past)) there h = h
    none_met (Err DiskFault) there h = tt
    none_met (Err OutOfMemory) there h = tt

    -- a revision above the youngest
    pub none_above : (n : ℕ) (e : BookFault) → IsYoungest b n → n < rev → e ≡ Refused (NoRev rev n) → IfRefused e (λ why. may_read a old rev (Err why))
    none_above n e is above same = subst (λ (f : BookFault). IfRefused f (λ why. may_read a old rev (Err why))) (sym same) (inl (n, youngest_before a b n extends is, above, refl))

-- of an owned disk that tells nothing is read but what its files say
pub owned_only : (told : Option Trace) (t : Trace) (n layout : Layout) (y last : ℕ) → told ≡ Some t → y ≡ last → n ≡ layout → ReadsOnly (may_read (Ends y) (owned_props told n)) last (props_bytes layout (files_now t))
owned_only told t n layout y last e same_last same_layout r le read (inl (k, is, above, f)) = absurd (let lt : k < r = above in let at : k ≡ y = is in omega (arith, lt, at, le, same_last))
owned_only told t n layout y last e same_last same_layout r le read (inr (k, is, within, file, may, f)) =
    let here : file ≡ props_file n (files_now t) r = subst (λ (o : Option Trace). owned_props o n r file) e may in
    ap (λ (l : Layout). or_missing r (props_file l (files_now t) r)) (sym same_layout) ∙ ap (or_missing r) (sym here) ∙ sym f
