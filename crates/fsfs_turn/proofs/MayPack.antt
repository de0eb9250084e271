-- An owned store may be taken for one whose pass packs.
use Rattle.std.proofs.Common.{◌≡◌, true, refl}
use Rattle.std.specs.Prelude.{Bool, Some, None}
use Rattle.fsfs_layout.specs.declared.only_file.OnlyFile.{OnlyFile}
use Rattle.fsfs_layout.specs.declared.only_file.OnlyFile.TheVariants as only
use Rattle.fsfs_turn.specs.Stands.{is_lasting}
use Rattle.fsfs_turn.specs.Alone.{MayPackAlone}

-- where a pass may pack fewer files last
lasts_too : (packs : Bool) (f : OnlyFile) → is_lasting true f ≡ true → is_lasting packs f ≡ true
lasts_too packs only.RepositoryFormat lasts = refl
lasts_too packs only.Format lasts = refl
lasts_too packs only.FsType lasts = refl
lasts_too packs only.Uuid lasts = refl
lasts_too packs f lasts = absurd cc

pub may_pack_alone : MayPackAlone
may_pack_alone layout low young stuck None v known = absurd known.0
may_pack_alone layout low young stuck (Some t) v known =
    let k = known.0 in
    let s = k.2 in
    let a = known.1 in (
      (
        k.0,
        k.1,
        record { pass = s.pass; seen = s.seen; section = s.section; up = s.up; sure = s.sure; whole = s.whole; given = s.given; opened = s.opened; shown = s.shown; names = s.names; firm = s.firm },
        k.3,
        k.4,
        k.5,
        k.6,
        k.7,
      ),
      record { all = a.all; own = a.own; free = a.free; sound = a.sound; found = a.found },
      λ m image. let o = known.2 m image in (o.0, λ f lasts. o.1 f (lasts_too v.since.packs f lasts)),
    )
