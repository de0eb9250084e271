-- Images of a disk are read as images of the machine's.
use Rattle.std.proofs.Common.{◌≡◌, ℕ, List, ◌∷◌, Bool, true, false, cond, inl, inr, ⊎_elim, refl, sym, ap, subst, ◌∙◌}
use Rattle.std.proofs.lemmas.Bool.{both_ways}
use Rattle.std.specs.Prelude.{Option, Some, None}
use Rattle.std.specs.FinMap.{get, get-remove, insert, remove}
use Rattle.std.specs.Cmp.Lexicographic.{nat_list_cmp_total}
use Rattle.fsfs_base.specs.Files.{Files, renamed}
use Rattle.fsfs_base.proofs.FileLemmas.{at_same, get_new, get_kept, get_left}
use Rattle.fsfs_layout.specs.declared.layout.Layout.{Layout}
use Rattle.fsfs_disk.specs.Trace.{Operation, files_after, ImageAfter, TornBy}
use Rattle.fsfs_disk.specs.Trace as real
use Rattle.fsfs_machine.specs.declared.contents.FileName.{FileName}
use Rattle.fsfs_machine.specs.declared.contents.Contents.{Contents}
use Rattle.fsfs_machine.specs.declared.contents.Contents.TheVariants.{Junk}
use Rattle.fsfs_machine.specs.declared.contents.NameChange.TheVariants.{Put, Rename, Remove, Firm}
use Rattle.fsfs_machine.specs.Disk.{Disk, found, is_gone, same_name, IsImage}
use Rattle.fsfs_images.specs.RealNames.{machine_name}
use Rattle.fsfs_images.specs.Shown.{Fits, Reads, AtName, AreRead, IsBeside, IsTraceOf, Start, Opening, Putting, Adopting, Renaming, Removing, Firming, Attempting, PuttingBeside, AdoptingBeside, RemovingBeside, KeepingLabel, DroppingLabel, ImagesAreShown}
use Rattle.fsfs_images.proofs.RealNaming.{fits_in, machine_names_apart, same_is}

get_none : (m : Files) (k : List ℕ) → get (remove m k) k ≡ None
get_none m k = get-remove nat_list_cmp_total m k k ∙ at_same k None (get m k)

module _ (layout : Layout) where
  apart : (a b : FileName) → Fits a → Fits b → same_name a b ≡ false → machine_name layout b ≡ machine_name layout a → ⊥
  apart a b fa fb e = (machine_names_apart layout).apart a b (fits_in layout a fa) (fits_in layout b fb) e

  at_none : (n : FileName) (file : Option (List ℕ)) → AtName layout n file None
  at_none n None = tt
  at_none n (Some bytes) = tt

  -- what was put at a name is read there
  read_new : (m : Files) (n q : FileName) (bytes : List ℕ) (c : Contents) → Reads layout n bytes c → same_name n q ≡ true → AtName layout q (get (insert m (machine_name layout n) bytes) (machine_name layout q)) (Some c)
  read_new m n q bytes c ok e =
      let new : Files = insert m (machine_name layout n) bytes in
      subst (λ z. AtName layout z (get new (machine_name layout z)) (Some c)) (same_is n q e)
      (subst (λ o. AtName layout n o (Some c)) (sym (get_new m (machine_name layout n) bytes)) ok)

  -- what no change touched is as it was
  kept_put : (m : Files) (n q : FileName) (bytes : List ℕ) → Fits n → Fits q → same_name n q ≡ false → get (insert m (machine_name layout n) bytes) (machine_name layout q) ≡ get m (machine_name layout q)
  kept_put m n q bytes fn fq e = get_kept m (machine_name layout n) bytes (machine_name layout q) (apart n q fn fq e)

  kept_remove : (m : Files) (n q : FileName) → Fits n → Fits q → same_name n q ≡ false → get (remove m (machine_name layout n)) (machine_name layout q) ≡ get m (machine_name layout q)
  kept_remove m n q fn fq e = get_left m (machine_name layout n) (machine_name layout q) (apart n q fn fq e)

  read_put : (m : Files) (d : Disk) (n : FileName) (bytes : List ℕ) (c : Contents) → AreRead layout m d → Fits n → Reads layout n bytes c → AreRead layout (insert m (machine_name layout n) bytes) (Put n c ∷ d)
  read_put m d n bytes c all fn ok = record {
    read = λ q fq.
        elim (same_name n q) as (λ b. same_name n q ≡ b → AtName layout q (get (insert m (machine_name layout n) bytes) (machine_name layout q)) (cond b (Some c) (found d q))) [
          | true ↦ λ e. read_new m n q bytes c ok e
          | false ↦ λ e. subst (λ o. AtName layout q o (found d q)) (sym (kept_put m n q bytes fn fq e)) (all.read q fq)
        ] refl;
    gone = λ q fq.
        elim (same_name n q) as (λ b. same_name n q ≡ b → cond b false (is_gone d q) ≡ true → get (insert m (machine_name layout n) bytes) (machine_name layout q) ≡ None) [
          | true ↦ λ e g. absurd cc
          | false ↦ λ e g. kept_put m n q bytes fn fq e ∙ all.gone q fq g
        ] refl;
  }

  -- what was taken away is not there
  none_left : (m : Files) (n q : FileName) → same_name n q ≡ true → get (remove m (machine_name layout n)) (machine_name layout q) ≡ None
  none_left m n q e = subst (λ z. get (remove m (machine_name layout n)) (machine_name layout z) ≡ None) (same_is n q e) (get_none m (machine_name layout n))

  read_remove : (m : Files) (d : Disk) (n : FileName) → AreRead layout m d → Fits n → AreRead layout (remove m (machine_name layout n)) (Remove n ∷ d)
  read_remove m d n all fn = record {
    read = λ q fq.
        elim (same_name n q) as (λ b. same_name n q ≡ b → AtName layout q (get (remove m (machine_name layout n)) (machine_name layout q)) (cond b None (found d q))) [
          | true ↦ λ e. at_none q (get (remove m (machine_name layout n)) (machine_name layout q))
          | false ↦ λ e. subst (λ o. AtName layout q o (found d q)) (sym (kept_remove m n q fn fq e)) (all.read q fq)
        ] refl;
    gone = λ q fq.
        elim (same_name n q) as (λ b. same_name n q ≡ b → cond b true (is_gone d q) ≡ true → get (remove m (machine_name layout n)) (machine_name layout q) ≡ None) [
          | true ↦ λ e g. none_left m n q e
          | false ↦ λ e g. kept_remove m n q fn fq e ∙ all.gone q fq g
        ] refl;
  }

  -- a rename takes one name away and puts the other
  read_rename : (m : Files) (d : Disk) (from to : FileName) (bytes : List ℕ) (c : Contents) → AreRead layout m d → Fits from → Fits to → Reads layout to bytes c
      → AreRead layout (insert (remove m (machine_name layout from)) (machine_name layout to) bytes) (Rename from to c ∷ d)
  read_rename m d from to bytes c all ff ft ok =
      let put : AreRead layout (insert (remove m (machine_name layout from)) (machine_name layout to) bytes) (Put to c ∷ Remove from ∷ d) = read_put (remove m (machine_name layout from)) (Remove from ∷ d) to bytes c (read_remove m d from all ff) ft ok in
      record { read = put.read; gone = put.gone }

  read_beside : (m : Files) (d : Disk) (name bytes : List ℕ) → IsBeside layout name → AreRead layout m d → AreRead layout (insert m name bytes) d
  read_beside m d name bytes other all = record {
    read = λ q fq. subst (λ o. AtName layout q o (found d q)) (sym (get_kept m name bytes (machine_name layout q) (other q fq))) (all.read q fq);
    gone = λ q fq g. get_kept m name bytes (machine_name layout q) (other q fq) ∙ all.gone q fq g;
  }

  gone_beside : (m : Files) (d : Disk) (name : List ℕ) → IsBeside layout name → AreRead layout m d → AreRead layout (remove m name) d
  gone_beside m d name other all = record {
    read = λ q fq. subst (λ o. AtName layout q o (found d q)) (sym (get_left m name (machine_name layout q) (other q fq))) (all.read q fq);
    gone = λ q fq g. get_left m name (machine_name layout q) (other q fq) ∙ all.gone q fq g;
  }

  -- to make the names firm changes no file
  read_firm : (m : Files) (d : Disk) → AreRead layout m d → AreRead layout m (Firm ∷ d)
  read_firm m d all = record { read = all.read; gone = all.gone }

module _ (layout : Layout) (others : List ℕ → Bool) where
  -- the files now
  pub now_read : (first : Files) (t : List Operation) (d : Disk) → IsTraceOf layout others first t d → AreRead layout (files_after first t) d
  now_read first _ _ (Start d all) = read_firm layout first d all
  now_read first _ _ (Opening t d all) = read_firm layout (files_after first t) d all
  now_read first _ _ (Putting t d n bytes c s fn ok) = read_put layout (files_after first t) d n bytes c (now_read first t d s) fn ok
  now_read first _ _ (Adopting t d n bytes c s fn ok) = read_put layout (files_after first t) d n bytes c (now_read first t d s) fn ok
  now_read first _ _ (Renaming t d from to bytes c s ff ft at ok) =
      subst (λ o. AreRead layout (renamed (files_after first t) (machine_name layout from) (machine_name layout to) o) (Rename from to c ∷ d)) (sym at) (read_rename layout (files_after first t) d from to bytes c (now_read first t d s) ff ft ok)
  now_read first _ _ (Removing t d n s fn) = read_remove layout (files_after first t) d n (now_read first t d s) fn
  now_read first _ _ (Firming t d s) = read_firm layout (files_after first t) d (now_read first t d s)
  now_read first _ _ (Attempting t d c s) = now_read first t d s
  now_read first _ _ (PuttingBeside t d name bytes may other s) = read_beside layout (files_after first t) d name bytes other (now_read first t d s)
  now_read first _ _ (AdoptingBeside t d name bytes may other s) = read_beside layout (files_after first t) d name bytes other (now_read first t d s)
  now_read first _ _ (RemovingBeside t d name may other s) = gone_beside layout (files_after first t) d name other (now_read first t d s)
  now_read first _ _ (KeepingLabel t d l s) = now_read first t d s
  now_read first _ _ (DroppingLabel t d l s) = now_read first t d s

  pub image_read : (first : Files) (t : List Operation) (d : Disk) → IsTraceOf layout others first t d → (m : Files) → real.IsImage first t m → (e : Disk) × IsImage d e × AreRead layout m e
  image_read first _ _ (Start d all) m image = (Firm ∷ d, refl, subst (λ z. AreRead layout z (Firm ∷ d)) (sym image) (read_firm layout first d all))
  image_read first _ _ (Opening t d all) m image = (Firm ∷ d, refl, subst (λ z. AreRead layout z (Firm ∷ d)) (sym image) (read_firm layout (files_after first t) d all))
  image_read first _ _ (Putting t d n bytes c s fn ok) m image =
      ⊎_elim (λ i. let r = image_read first t d s m i in (r.0, inl r.1, r.2))
      (λ w. let r = image_read first t d s w.0 w.1 in (Put n c ∷ r.0, inr (r.0, r.1, refl), subst (λ z. AreRead layout z (Put n c ∷ r.0)) (sym w.2) (read_put layout w.0 r.0 n bytes c r.2 fn ok))) image
  image_read first _ _ (Adopting t d n bytes c s fn ok) m image =
      ⊎_elim (λ i. let r = image_read first t d s m i in (r.0, inl r.1, r.2))
      (λ w. let r = image_read first t d s w.0 w.1 in (Put n c ∷ r.0, inr (r.0, r.1, refl), subst (λ z. AreRead layout z (Put n c ∷ r.0)) (sym w.2) (read_put layout w.0 r.0 n bytes c r.2 fn ok))) image
  image_read first _ _ (Renaming t d from to bytes c s ff ft at ok) m image =
      ⊎_elim (λ i. let r = image_read first t d s m i in (r.0, inl r.1, r.2))
      (λ w. let r = image_read first t d s w.0 w.1 in (Rename from to c ∷ r.0, inr (r.0, r.1, refl), subst (λ z. AreRead layout z (Rename from to c ∷ r.0)) (sym (w.2 ∙ ap (λ o. renamed w.0 (machine_name layout from) (machine_name layout to) o) at)) (read_rename layout w.0 r.0 from to bytes c r.2 ff ft ok))) image
  image_read first _ _ (Removing t d n s fn) m image =
      ⊎_elim (λ i. let r = image_read first t d s m i in (r.0, inl r.1, r.2))
      (λ w. let r = image_read first t d s w.0 w.1 in (Remove n ∷ r.0, inr (r.0, r.1, refl), subst (λ z. AreRead layout z (Remove n ∷ r.0)) (sym w.2) (read_remove layout w.0 r.0 n r.2 fn))) image
  image_read first _ _ (Firming t d s) m image = (Firm ∷ d, refl, subst (λ z. AreRead layout z (Firm ∷ d)) (sym image) (read_firm layout (files_after first t) d (now_read first t d s)))
  image_read first _ _ (Attempting t d c s) m image = image_read first t d s m image
  image_read first _ _ (PuttingBeside t d name bytes may other s) m image =
      ⊎_elim (λ i. image_read first t d s m i)
      (λ w. let r = image_read first t d s w.0 w.1 in (r.0, r.1, subst (λ z. AreRead layout z r.0) (sym w.2) (read_beside layout w.0 r.0 name bytes other r.2))) image
  image_read first _ _ (AdoptingBeside t d name bytes may other s) m image =
      ⊎_elim (λ i. image_read first t d s m i)
      (λ w. let r = image_read first t d s w.0 w.1 in (r.0, r.1, subst (λ z. AreRead layout z r.0) (sym w.2) (read_beside layout w.0 r.0 name bytes other r.2))) image
  image_read first _ _ (RemovingBeside t d name may other s) m image =
      ⊎_elim (λ i. image_read first t d s m i)
      (λ w. let r = image_read first t d s w.0 w.1 in (r.0, r.1, subst (λ z. AreRead layout z r.0) (sym w.2) (gone_beside layout w.0 r.0 name other r.2))) image
  image_read first _ _ (KeepingLabel t d l s) m image = image_read first t d s m image
  image_read first _ _ (DroppingLabel t d l s) m image = image_read first t d s m image

  pub torn_read : (first : Files) (t : List Operation) (d : Disk) → IsTraceOf layout others first t d → (n : FileName) (bytes : List ℕ) → Fits n
      → (m : Files) → TornBy (real.Put (machine_name layout n) bytes) (real.IsImage first t) m → (e : Disk) × IsImage (Put n Junk ∷ d) e × AreRead layout m e
  torn_read first t d s n bytes fn m w =
      let r = image_read first t d s w.1 w.2 in
      (Put n Junk ∷ r.0, inr (r.0, r.1, refl), subst (λ z. AreRead layout z (Put n Junk ∷ r.0)) (sym w.3) (read_put layout w.1 r.0 n w.0 Junk r.2 fn tt))

-- ---- files that are neither the machine's nor beside

same_put : (name k bytes : List ℕ) (now : Files) (Before : Files → Type 0) → (name ≡ k → ⊥) → ((m : Files) → Before m → get m name ≡ get now name)
    → (m : Files) → ImageAfter (real.Put k bytes) now Before m → get m name ≡ get (insert now k bytes) name
same_put name k bytes now Before apart before m image =
    ⊎_elim (λ i. before m i ∙ sym (get_kept now k bytes name apart))
    (λ w. ap (λ z. get z name) w.2 ∙ get_kept w.0 k bytes name apart ∙ before w.0 w.1 ∙ sym (get_kept now k bytes name apart)) image

same_remove : (name k : List ℕ) (now : Files) (Before : Files → Type 0) → (name ≡ k → ⊥) → ((m : Files) → Before m → get m name ≡ get now name)
    → (m : Files) → ImageAfter (real.Remove k) now Before m → get m name ≡ get (remove now k) name
same_remove name k now Before apart before m image =
    ⊎_elim (λ i. before m i ∙ sym (get_left now k name apart))
    (λ w. ap (λ z. get z name) w.2 ∙ get_left w.0 k name apart ∙ before w.0 w.1 ∙ sym (get_left now k name apart)) image

moved : (name from to : List ℕ) (o : Option (List ℕ)) (z : Files) → (name ≡ from → ⊥) → (name ≡ to → ⊥) → get (renamed z from to o) name ≡ get z name
moved name from to None z not_from not_to = get_left (remove z from) to name not_to ∙ get_left z from name not_from
moved name from to (Some bytes) z not_from not_to = get_kept (remove z from) to bytes name not_to ∙ get_left z from name not_from

same_rename : (name from to : List ℕ) (now : Files) (Before : Files → Type 0) → (name ≡ from → ⊥) → (name ≡ to → ⊥) → ((m : Files) → Before m → get m name ≡ get now name)
    → (m : Files) → ImageAfter (real.Rename from to) now Before m → get m name ≡ get (renamed now from to (get now from)) name
same_rename name from to now Before not_from not_to before m image =
    ⊎_elim (λ i. before m i ∙ sym (moved name from to (get now from) now not_from not_to))
    (λ w. ap (λ z. get z name) w.2 ∙ moved name from to (get now from) w.0 not_from not_to ∙ before w.0 w.1 ∙ sym (moved name from to (get now from) now not_from not_to)) image

module _ (layout : Layout) (others : List ℕ → Bool) (name : List ℕ) (unnamed : others name ≡ false) (beside : IsBeside layout name) where
  no_machine : (n : FileName) → Fits n → name ≡ machine_name layout n → ⊥
  no_machine n fn e = beside n fn (sym e)

  no_other : (other : List ℕ) → others other ≡ true → name ≡ other → ⊥
  no_other other may e = both_ways (others other) (sym (ap others e) ∙ unnamed) may

  pub kept_same : (first : Files) (t : List Operation) (d : Disk) → IsTraceOf layout others first t d → (m : Files) → real.IsImage first t m → get m name ≡ get (files_after first t) name
  kept_same first _ _ (Start d all) m image = ap (λ z. get z name) image
  kept_same first _ _ (Opening t d all) m image = ap (λ z. get z name) image
  kept_same first _ _ (Putting t d n bytes c s fn ok) m image = same_put name (machine_name layout n) bytes (files_after first t) (real.IsImage first t) (no_machine n fn) (kept_same first t d s) m image
  kept_same first _ _ (Adopting t d n bytes c s fn ok) m image = same_put name (machine_name layout n) bytes (files_after first t) (real.IsImage first t) (no_machine n fn) (kept_same first t d s) m image
  kept_same first _ _ (Renaming t d from to bytes c s ff ft at ok) m image = same_rename name (machine_name layout from) (machine_name layout to) (files_after first t) (real.IsImage first t) (no_machine from ff) (no_machine to ft) (kept_same first t d s) m image
  kept_same first _ _ (Removing t d n s fn) m image = same_remove name (machine_name layout n) (files_after first t) (real.IsImage first t) (no_machine n fn) (kept_same first t d s) m image
  kept_same first _ _ (Firming t d s) m image = ap (λ z. get z name) image
  kept_same first _ _ (Attempting t d c s) m image = kept_same first t d s m image
  kept_same first _ _ (PuttingBeside t d other bytes may is s) m image = same_put name other bytes (files_after first t) (real.IsImage first t) (no_other other may) (kept_same first t d s) m image
  kept_same first _ _ (AdoptingBeside t d other bytes may is s) m image = same_put name other bytes (files_after first t) (real.IsImage first t) (no_other other may) (kept_same first t d s) m image
  kept_same first _ _ (RemovingBeside t d other may is s) m image = same_remove name other (files_after first t) (real.IsImage first t) (no_other other may) (kept_same first t d s) m image
  kept_same first _ _ (KeepingLabel t d l s) m image = kept_same first t d s m image
  kept_same first _ _ (DroppingLabel t d l s) m image = kept_same first t d s m image

pub images_are_shown : (layout : Layout) (others : List ℕ → Bool) → ImagesAreShown layout others
images_are_shown layout others = record { now = now_read layout others; images = image_read layout others; torn = torn_read layout others; kept = kept_same layout others }
