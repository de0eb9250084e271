-- What a creation did, as the top call tells it.
use Rattle.std.proofs.Common.{◌≡◌, ◌⊎◌, ℕ, List, [], inl, inr, ⊎_elim, refl, sym, ap, subst, ◌∙◌}
use Rattle.std.specs.Prelude.{Option, Some, None, IfSome, option_map}
use Rattle.std.specs.declared.cmp.Ordering.{Ordering}
use Rattle.std.specs.declared.cmp.Ordering.TheVariants.{Less, Equal, Greater}
use Rattle.std.specs.Ordering.{nat_cmp, is_eq}
use Rattle.std.specs.Cmp.Lexicographic.{slice_cmp}
use Rattle.std.specs.FinMap.{slice_cmp-IsAntisymmetric, nat_cmp-IsAntisymmetric}
use Rattle.fsfs_base.specs.Failures.{Rose}
use Rattle.fsfs_base.proofs.FileLemmas.{apart_by}
use Rattle.fsfs_disk.specs.Trace.{Trace, files_now}
use Rattle.fsfs_disk.specs.Crash.{AllImages, Leaves}
use Rattle.fsfs_layout.specs.CreatedFiles.{identifier_text, random_identifier}
use Rattle.fsfs_create.specs.Creation.{IsCreated, IsNoneOrWhole, IsUnpublished, IsNoRepository, CreateFails}
use Rattle.fsfs_base.specs.declared.places.create_fault.CreateFault.{CreateFault}
use Rattle.fsfs_base.specs.declared.places.create_fault.CreateFault.TheVariants as create
use Rattle.fsfs_cli.specs.CommandFaults.{fault_from_create}
use Rattle.fsfs_cli.specs.declared.faults.fault.Fault.{Fault}
use Rattle.fsfs_top.specs.Command.{Drawn, Created, LeavesNoneOrCreated, identifier_of}
use Rattle.fsfs_top.specs.Scenes.{HostScene}

given : {X : Type 0} (told : Option X) (x y : X) → x ≡ y → IfSome told (λ t. y ≡ t) → IfSome told (λ t. x ≡ t)
given None x y e h = tt
given (Some t) x y e h = e ∙ h

-- the moment and the bytes that a creation was given
abbrev pub drawn : (clock : Option ℕ) (dice : Option (List ℕ)) (moment : ℕ) (bits : List ℕ) → IfSome clock (λ t. moment ≡ t) → IfSome dice (λ b. bits ≡ b) → Drawn clock dice
drawn clock dice moment bits m b = record { moment = moment; bits = bits; moment_is = m; bits_are = b }

-- a creation that was done, on the disk that the host had
pub created_done : (repos : List ℕ) (a b : HostScene) (shard : ℕ) (clock : Option ℕ) (dice : Option (List ℕ)) (d : Drawn clock dice) (id : List ℕ) (old new : Option Trace) → id ≡ random_identifier d.bits → old ≡ a.disk_at repos → b.disk_at repos ≡ new
    → IsNoRepository old → IsCreated shard (identifier_text id) d.moment old new → Created repos shard clock dice a b None
created_done repos a b shard clock dice d id old new named was is none_there made =
    inr (inr (
      refl,
      subst IsNoRepository was none_there,
      (
        d,
        subst (λ o. IsCreated shard (identifier_of clock dice d) d.moment o (b.disk_at repos)) was
            (subst (λ n. IsCreated shard (identifier_of clock dice d) d.moment old n) (sym is)
            (subst (λ i. IsCreated shard (identifier_text i) d.moment old new) named made)),
      ),
    ))

counted_failure : (rose disk : Type 0) (shard moment : ℕ) (identifier : List ℕ) (old new : Option Trace) (why : CreateFault) → (rose → disk) → CreateFails rose shard identifier moment old new why → CreateFails disk shard identifier moment old new why
counted_failure rose disk shard moment identifier old new create.AlreadyRepo counted h = h
counted_failure rose disk shard moment identifier old new (create.DiskFault place) counted h = (counted h.0, h.1)
counted_failure rose disk shard moment identifier old new create.Memory counted h = h

-- and one that failed
pub created_failed : (repos : List ℕ) (a b : HostScene) (rose : Type 0) (shard : ℕ) (clock : Option ℕ) (dice : Option (List ℕ)) (d : Drawn clock dice) (id : List ℕ) (old new : Option Trace) (why : CreateFault) (fault : Fault) → fault ≡ fault_from_create why
    → id ≡ random_identifier d.bits → old ≡ a.disk_at repos → b.disk_at repos ≡ new → (rose → Rose a.disk_faults b.disk_faults)
    → CreateFails rose shard (identifier_text id) d.moment old new why → Created repos shard clock dice a b (Some fault)
created_failed repos a b rose shard clock dice d id old new why fault from named was is counted failed =
    let disk = Rose a.disk_faults b.disk_faults in
    inr (inl (
      why,
      ap (λ (f : Fault). Some f) from,
      (
        d,
        subst (λ o. CreateFails disk shard (identifier_of clock dice d) d.moment o (b.disk_at repos) why) was
            (subst (λ n. CreateFails disk shard (identifier_of clock dice d) d.moment old n why) (sym is)
            (subst (λ i. CreateFails disk shard (identifier_text i) d.moment old new why) named
            (counted_failure rose disk shard d.moment (identifier_text id) old new why counted failed))),
      ),
    ))

-- what a crash leaves, on the disk that the host had
pub leaves_created : (shard : ℕ) (clock : Option ℕ) (dice : Option (List ℕ)) (d : Drawn clock dice) (id : List ℕ) (old new at_old at_new : Option Trace) → id ≡ random_identifier d.bits → old ≡ at_old → at_new ≡ new
    → (AllImages old IsUnpublished → Leaves old new (IsNoneOrWhole shard (identifier_text id) d.moment old)) → AllImages at_old IsUnpublished → LeavesNoneOrCreated shard clock dice at_old at_new
leaves_created shard clock dice d id old new at_old at_new named was is leaves =
    subst (λ o. AllImages o IsUnpublished → LeavesNoneOrCreated shard clock dice o at_new) was
    (subst (λ o. AllImages old IsUnpublished → LeavesNoneOrCreated shard clock dice old o) (sym is)
    (λ all. (d, subst (λ i. Leaves old new (IsNoneOrWhole shard (identifier_text i) d.moment old)) named (leaves all))))

-- where nothing was drawn, what would have been
pub some_drawn : (clock : Option ℕ) (dice : Option (List ℕ)) → Drawn clock dice
some_drawn None None = record { moment = 0; bits = []; moment_is = tt; bits_are = tt }
some_drawn None (Some b) = record { moment = 0; bits = b; moment_is = tt; bits_are = refl }
some_drawn (Some t) None = record { moment = t; bits = []; moment_is = refl; bits_are = tt }
some_drawn (Some t) (Some b) = record { moment = t; bits = b; moment_is = refl; bits_are = refl }

-- two paths are one or not
pub path_cases : (p q : List ℕ) → (p ≡ q) ⊎ (p ≡ q → ⊥)
path_cases p q = by_test (slice_cmp nat_cmp p q) refl where
  by_test : (r : Ordering) → slice_cmp nat_cmp p q ≡ r → (p ≡ q) ⊎ (p ≡ q → ⊥)
  by_test Equal is = inl (slice_cmp-IsAntisymmetric nat_cmp-IsAntisymmetric p q is)
  by_test Less is = inr (apart_by p q (ap is_eq is))
  by_test Greater is = inr (apart_by p q (ap is_eq is))

-- the files are the same at this path and at every other
pub same_files : (old new : List ℕ → Option Trace) (repos path : List ℕ) → option_map files_now (new repos) ≡ option_map files_now (old repos) → ((p : List ℕ) → (p ≡ repos → ⊥) → new p ≡ old p)
    → option_map files_now (new path) ≡ option_map files_now (old path)
same_files old new repos path same others = ⊎_elim
    (λ is. subst (λ p. option_map files_now (new p) ≡ option_map files_now (old p)) (sym is) same)
    (λ apart. ap (option_map files_now) (others path apart)) (path_cases path repos)
