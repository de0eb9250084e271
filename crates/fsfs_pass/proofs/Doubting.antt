-- Which calls leave a section in doubt, so that the lock is to be left stuck, and by which faults.
use Rattle.std.proofs.Common.{◌≡◌, List, [], ◌∷◌, ◌++◌, true, false, cond, refl, ◌∙◌}
use Rattle.std.specs.Prelude.{Bool}
use Rattle.fsfs_base.specs.declared.places.place.DiskPlace.{DiskPlace}
use Rattle.fsfs_base.specs.declared.places.place.DiskPlace.TheVariants.{Read, Begin, Commit, Pack}
use Rattle.fsfs_base.specs.declared.places.place.BeginPlace.TheVariants as begin
use Rattle.fsfs_base.specs.declared.places.place.PackPlace.TheVariants as pack
use Rattle.fsfs_base.specs.declared.places.place.CommitPlace.TheVariants.{PutProps, FirmRev, PutCurrent, RenameCurrent, FirmCurrent}
use Rattle.fsfs_machine.specs.declared.machine.Section.{Section}
use Rattle.fsfs_machine.specs.declared.machine.Section.TheVariants.{Begun, CountRead, CountPut, CountRenamed, RevPut, PropsPut, RevFirm, CurrentPut, CurrentRenamed, CurrentFirm, Doubtful, PackPut, ManifestPut, PackFirm, FloorPut, FloorRenamed, FloorDoubtful, Packed, Over}
use Rattle.fsfs_machine.specs.declared.machine.Went.{Went}
use Rattle.fsfs_machine.specs.declared.machine.Went.TheVariants.{Fine, Before, After, Torn}
use Rattle.fsfs_machine.specs.Machine.{either, after, spoiled}
use Rattle.fsfs_turn.specs.Alone.{are_harmless, leaves_stuck, is_doubtful}
use Rattle.fsfs_turn.proofs.Alone.{after_calm}

-- the place of the call that is due in a section
abbrev pub place_due : Section → DiskPlace
place_due (CountRead x) = Begin begin.Put
place_due (CountPut x) = Begin begin.Rename
place_due (CountRenamed x) = Begin begin.Firm
place_due (RevPut x) = Commit PutProps
place_due (PropsPut x) = Commit FirmRev
place_due (RevFirm x) = Commit PutCurrent
place_due (CurrentPut x) = Commit RenameCurrent
place_due (CurrentRenamed x) = Commit FirmCurrent
place_due Begun = Pack pack.AdoptPack
place_due PackPut = Pack pack.AdoptManifest
place_due ManifestPut = Pack pack.FirmPack
place_due PackFirm = Pack pack.PutFloor
place_due FloorPut = Pack pack.RenameFloor
place_due FloorRenamed = Pack pack.FirmFloor
place_due Packed = Pack pack.AdoptPack
place_due s = Read

-- none of these faults leaves the lock stuck, so the last doesn't
harmless_last : (places : List DiskPlace) (place : DiskPlace) → are_harmless (places ++ place ∷ []) ≡ true → leaves_stuck place ≡ false
harmless_last [] place e = by_test (leaves_stuck place) e
  where
    by_test : (b : Bool) → cond b false true ≡ true → b ≡ false
    by_test true e = absurd cc
    by_test false e = refl
harmless_last (x ∷ places) place e = by_test (leaves_stuck x) e (harmless_last places place)
  where
    by_test : (b : Bool) → cond b false (are_harmless (places ++ place ∷ [])) ≡ true → (are_harmless (places ++ place ∷ []) ≡ true → leaves_stuck place ≡ false) → leaves_stuck place ≡ false
    by_test true e rest = absurd cc
    by_test false e rest = rest e

-- the lock is to be left stuck just by the faults that leave it so
spoiled_doubtful : (s : Section) → is_doubtful (spoiled s) ≡ leaves_stuck (place_due s)
spoiled_doubtful Begun = refl
spoiled_doubtful (CountRead x) = refl
spoiled_doubtful (CountPut x) = refl
spoiled_doubtful (CountRenamed x) = refl
spoiled_doubtful (RevPut x) = refl
spoiled_doubtful (PropsPut x) = refl
spoiled_doubtful (RevFirm x) = refl
spoiled_doubtful (CurrentPut x) = refl
spoiled_doubtful (CurrentRenamed x) = refl
spoiled_doubtful (CurrentFirm x) = refl
spoiled_doubtful (Doubtful place x) = refl
spoiled_doubtful PackPut = refl
spoiled_doubtful ManifestPut = refl
spoiled_doubtful PackFirm = refl
spoiled_doubtful FloorPut = refl
spoiled_doubtful FloorRenamed = refl
spoiled_doubtful (FloorDoubtful place) = refl
spoiled_doubtful Packed = refl
spoiled_doubtful Over = refl

-- where the faults behind the call that was due are harmless, its section isn't to leave the lock stuck
pub called_calm : (went : Went) (s : Section) (places : List DiskPlace) → are_harmless (either went places (places ++ place_due s ∷ [])) ≡ true → is_doubtful (either went (after s) (spoiled s)) ≡ false
called_calm Fine s places e = after_calm s
called_calm Before s places e = spoiled_doubtful s ∙ harmless_last places (place_due s) e
called_calm After s places e = spoiled_doubtful s ∙ harmless_last places (place_due s) e
called_calm (Torn any) s places e = spoiled_doubtful s ∙ harmless_last places (place_due s) e
