use Rattle.std.proofs.Common.{◌≡◌, ◌∙◌, ap, subst, sym, rules, inl, inr, ℕ, List}
use Rattle.fsfs_layout.specs.Opening.{IsFsfs, IsRefusedFormat}
use Rattle.fsfs_create.specs.OpenFaults.{texts_of}
use Rattle.fsfs_layout.specs.Folders.{AreShards}
use Rattle.fsfs_layout.specs.Formats.{IsFormat}
use Rattle.fsfs_layout.specs.Layouts.{Packs}
use Rattle.fsfs_layout.specs.declared.layout.Layout.{Layout}
use Rattle.fsfs_layout.specs.declared.small_files.format_file.FormatFile.TheVariants.{Known}
use Rattle.fsfs_create.proofs.DecidingLemmas.{decides_other, decides_linear, decides_unread, decides_opened, decides_refused}
use Rattle.fsfs_create.proofs.OpeningLemmas.{known_four}
use Rattle.fsfs_create.proofs.opening.judge.Goals as goal

pub returns-in-Ok-Other-clause-decided : goal.returns-in-Ok-Other-clause-decided
returns-in-Ok-Other-clause-decided c =
    let is : IsFsfs (texts_of c.args.files.now) c.in-Some.format.items = search rules in
    decides_other (texts_of c.args.files.now) c.in-Some.format.items c.in-Ok-Other.number
    (record { is = is; only = λ g w. let e = c.in-Ok-Other.ensures.only g (subst (λ t. IsFormat t g) (sym c.deref.ensures.value) w) in let f = c.in-Ok-Other.field-0-is in cc })

pub returns-in-OneFolder-clause-refused : goal.returns-in-OneFolder-clause-refused
returns-in-OneFolder-clause-refused c =
    let is : IsFsfs (texts_of c.args.files.now) c.in-Some.format.items = search rules in
    let found : IsFormat c.deref.result.now (Known c.in-Ok-Known.layout) = subst (IsFormat c.deref.result.now) c.in-Ok-Known.field-0-is c.in-Ok-Known.ensures.found in
    (c.in-Ok-Known.layout, (c.in-Some.format.items, is, subst (λ (t : List ℕ). IsFormat t (Known c.in-Ok-Known.layout)) c.deref.ensures.value found), sym c.folders.ensures.folders ∙ c.in-OneFolder.is)

pub returns-in-OneFolder-clause-decided : goal.returns-in-OneFolder-clause-decided
returns-in-OneFolder-clause-decided c =
    let is : IsFsfs (texts_of c.args.files.now) c.in-Some.format.items = search rules in
    decides_linear (texts_of c.args.files.now) c.in-Some.format.items c.in-Ok-Known.layout (sym c.folders.ensures.folders ∙ c.in-OneFolder.is)
    (record { is = is; only = λ g w. let e = c.in-Ok-Known.ensures.only g (subst (λ t. IsFormat t g) (sym c.deref.ensures.value) w) in let f = c.in-Ok-Known.field-0-is in cc })

pub returns-in-Ok-clause-decided : goal.returns-in-Ok-clause-decided
returns-in-Ok-clause-decided c =
    let is : IsFsfs (texts_of c.args.files.now) c.in-Some.format.items = search rules in
    let found : IsFormat c.deref.result.now (Known c.in-Ok-Known.layout) = subst (IsFormat c.deref.result.now) c.in-Ok-Known.field-0-is c.in-Ok-Known.ensures.found in
    let packs : Packs c.in-Ok-Known.layout = record { format = known_four c.deref.result.now c.in-Ok-Known.layout found; sharded = subst AreShards (sym c.in-Shards.is ∙ c.folders.ensures.folders) tt } in
    decides_opened (texts_of c.args.files.now) c.in-Some.format.items c.in-Ok-Known.layout c.in-Ok.opened packs
    (record { is = is; only = λ g w. let e = c.in-Ok-Known.ensures.only g (subst (λ t. IsFormat t g) (sym c.deref.ensures.value) w) in let f = c.in-Ok-Known.field-0-is in cc })
    c.in-Ok.ensures.only

pub returns-in-Err-judge_sharded-clause-decided : goal.returns-in-Err-judge_sharded-clause-decided
returns-in-Err-judge_sharded-clause-decided c =
    let is : IsFsfs (texts_of c.args.files.now) c.in-Some.format.items = search rules in
    let found : IsFormat c.deref.result.now (Known c.in-Ok-Known.layout) = subst (IsFormat c.deref.result.now) c.in-Ok-Known.field-0-is c.in-Ok-Known.ensures.found in
    let packs : Packs c.in-Ok-Known.layout = record { format = known_four c.deref.result.now c.in-Ok-Known.layout found; sharded = subst AreShards (sym c.in-Shards.is ∙ c.folders.ensures.folders) tt } in
    decides_refused (texts_of c.args.files.now) c.in-Some.format.items c.in-Ok-Known.layout c.in-Err-judge_sharded.fault packs
    (record { is = is; only = λ g w. let e = c.in-Ok-Known.ensures.only g (subst (λ t. IsFormat t g) (sym c.deref.ensures.value) w) in let f = c.in-Ok-Known.field-0-is in cc })
    c.in-Err-judge_sharded.ensures.only

pub returns-in-Err-clause-decided : goal.returns-in-Err-clause-decided
returns-in-Err-clause-decided c =
    let is : IsFsfs (texts_of c.args.files.now) c.in-Some.format.items = search rules in
    decides_unread (texts_of c.args.files.now) c.in-Some.format.items c.in-Err.fault
    (record { is = is; only = λ g w. let e = c.in-Err.ensures.only g (subst (λ t. IsFormat t g) (sym c.deref.ensures.value) w) in cc })

pub returns-in-Ok-clause-opened : goal.returns-in-Ok-clause-opened
returns-in-Ok-clause-opened c =
    let is : IsFsfs (texts_of c.args.files.now) c.in-Some.format.items = search rules in
    let found : IsFormat c.deref.result.now (Known c.in-Ok-Known.layout) = subst (IsFormat c.deref.result.now) c.in-Ok-Known.field-0-is c.in-Ok-Known.ensures.found in
    let packs : Packs c.in-Ok-Known.layout = record { format = known_four c.deref.result.now c.in-Ok-Known.layout found; sharded = subst AreShards (sym c.in-Shards.is ∙ c.folders.ensures.folders) tt } in
    let same : c.in-Ok-Known.layout ≡ c.in-Ok.opened.layout = sym c.in-Ok.ensures.layout in
    record {
      format = (c.in-Some.format.items, is, subst (λ (t : List ℕ). IsFormat t (Known c.in-Ok.opened.layout)) c.deref.ensures.value (subst (λ (l : Layout). IsFormat c.deref.result.now (Known l)) same found));
      packs = subst (λ (l : Layout). Packs l) same packs;
      behind = c.in-Ok.ensures.opened;
    }

pub returns-in-Err-judge_sharded-clause-refused : goal.returns-in-Err-judge_sharded-clause-refused
returns-in-Err-judge_sharded-clause-refused c =
    let is : IsFsfs (texts_of c.args.files.now) c.in-Some.format.items = search rules in
    let found : IsFormat c.deref.result.now (Known c.in-Ok-Known.layout) = subst (IsFormat c.deref.result.now) c.in-Ok-Known.field-0-is c.in-Ok-Known.ensures.found in
    let packs : Packs c.in-Ok-Known.layout = record { format = known_four c.deref.result.now c.in-Ok-Known.layout found; sharded = subst AreShards (sym c.in-Shards.is ∙ c.folders.ensures.folders) tt } in (
      c.in-Some.format.items,
      is,
      inr (c.in-Ok-Known.layout, subst (λ (t : List ℕ). IsFormat t (Known c.in-Ok-Known.layout)) c.deref.ensures.value found, packs, c.in-Err-judge_sharded.ensures.refused),
    )

pub returns-in-Err-clause-refused : goal.returns-in-Err-clause-refused
returns-in-Err-clause-refused c =
    let is : IsFsfs (texts_of c.args.files.now) c.in-Some.format.items = search rules in
    (c.in-Some.format.items, is, inl (subst (λ t. IsRefusedFormat t c.in-Err.fault) c.deref.ensures.value (λ g w. (let e = c.in-Err.ensures.only g w in cc), c.in-Err.ensures.fault)))
