-- What the small files decide, by what `db/format` says.
use Rattle.std.proofs.Common.{◌≡◌, ℕ, List, inl, inr, refl, sym, ap, subst, ◌∙◌}
use Rattle.std.specs.Prelude.{Option, Some, None, IfSome, IfOk, Result, Ok, Err}
use Rattle.std.proofs.lemmas.Option.{same_Some}
use Rattle.fsfs_base.specs.declared.small_fault.SmallFault.{SmallFault}
use Rattle.fsfs_disk.specs.Trace.{Trace, files_now}
use Rattle.fsfs_layout.specs.Formats.{IsFormat}
use Rattle.fsfs_layout.specs.Folders.{AreShards}
use Rattle.fsfs_layout.specs.Layouts.{Packs}
use Rattle.fsfs_layout.specs.declared.folders.Folders.TheVariants.{OneFolder}
use Rattle.fsfs_layout.specs.declared.small_files.format_file.FormatFile.{FormatFile}
use Rattle.fsfs_layout.specs.declared.small_files.format_file.FormatFile.TheVariants.{Known, Other}
use Rattle.fsfs_layout.specs.declared.layout.Layout.{Layout}
use Rattle.fsfs_layout.specs.Opening.{SmallTexts, small_texts, IsFsfs, IsNone, IsLinear, IsOpened, IsOpenedBehind}
use Rattle.fsfs_create.specs.Deciding.{Decides}
use Rattle.fsfs_create.specs.FirstTexts.{first_texts}
use Rattle.fsfs_create.proofs.FirstTextLemmas.{decides_of_first, ok_of_first}
use Rattle.fsfs_layout.specs.declared.opened.Opened.{Opened}
use Rattle.fsfs_base.specs.declared.places.open_fault.OpenFault.{OpenFault}
use Rattle.fsfs_base.specs.declared.places.open_fault.OpenFault.TheVariants as why_not

-- a repository of this type of filesystem, and what else its format may be
pub record Has (s : SmallTexts) (text : List ℕ) (Says : FormatFile → Type 0) : Type 0 where
  pub is : IsFsfs s text
  pub only : (g : FormatFile) → IsFormat text g → Says g

same_text : (s : SmallTexts) (text other : List ℕ) → IsFsfs s text → IsFsfs s other → other ≡ text
same_text s text other a b = same_Some other text (sym b.there ∙ a.there)

says : (s : SmallTexts) (text other : List ℕ) (Says : FormatFile → Type 0) (g : FormatFile) → Has s text Says → IsFsfs s other → IsFormat other g → Says g
says s text other Says g h is w = h.only g (subst (λ (t : List ℕ). IsFormat t g) (same_text s text other h.is is) w)

-- it is a repository
pub is_some : (s : SmallTexts) (text : List ℕ) → IsFsfs s text → IsNone s → ⊥
is_some s text is (inl none) = let h : None ≡ Some text = sym none ∙ is.there in cc
is_some s text is (inr other) = other is.fs_type

known_same : (a b : Layout) → Known a ≡ Known b → a ≡ b
known_same a b e = cc

-- one folder is none of shards
not_linear : (a b : Layout) → a ≡ b → Packs a → b.folders ≡ OneFolder → ⊥
not_linear a b e packs one = subst AreShards (ap (λ (l : Layout). l.folders) e ∙ one) packs.sharded

-- the layout that the format says
layout_is : (s : SmallTexts) (text : List ℕ) (n : Layout) (o : Opened) → Has s text (λ g. Known n ≡ g) → IsOpened s o → o.layout ≡ n
layout_is s text n o h w = sym (known_same n o.layout (says s text w.format.0 (λ g. Known n ≡ g) (Known o.layout) h w.format.1 w.format.2))

pub decides_other : (s : SmallTexts) (text : List ℕ) (n : ℕ) → Has s text (λ g. Other n ≡ g) → Decides s (Err (why_not.OtherFormat n))
decides_other s text n h = record {
  opened = λ o w. absurd (let e = says s text w.format.0 (λ g. Other n ≡ g) (Known o.layout) h w.format.1 w.format.2 in cc);
  none = λ w. absurd (is_some s text h.is w);
  other = λ m w. inl (let e = says s text w.0 (λ g. Other n ≡ g) (Other m) h w.1 w.2 in cc);
  linear = λ w. absurd (let e = says s text w.1.0 (λ g. Other n ≡ g) (Known w.0) h w.1.1 w.1.2 in cc);
}

pub decides_linear : (s : SmallTexts) (text : List ℕ) (n : Layout) → n.folders ≡ OneFolder → Has s text (λ g. Known n ≡ g) → Decides s (Err why_not.Linear)
decides_linear s text n linear h = record {
  opened = λ o w. absurd (not_linear o.layout n (layout_is s text n o h w) w.packs linear);
  none = λ w. absurd (is_some s text h.is w);
  other = λ m w. absurd (let e = says s text w.0 (λ g. Known n ≡ g) (Other m) h w.1 w.2 in cc);
  linear = λ w. inl refl;
}

-- no format at all
pub decides_unread : (s : SmallTexts) (text : List ℕ) (fault : SmallFault) → Has s text (λ g. ⊥) → Decides s (Err (why_not.Small fault))
decides_unread s text fault h = record {
  opened = λ o w. absurd (says s text w.format.0 (λ g. ⊥) (Known o.layout) h w.format.1 w.format.2);
  none = λ w. absurd (is_some s text h.is w);
  other = λ m w. absurd (says s text w.0 (λ g. ⊥) (Other m) h w.1 w.2);
  linear = λ w. absurd (says s text w.1.0 (λ g. ⊥) (Known w.0) h w.1.1 w.1.2);
}

-- another layout than this isn't said
linear_not : (s : SmallTexts) (text : List ℕ) (n : Layout) → Has s text (λ g. Known n ≡ g) → Packs n → IsLinear s → ⊥
linear_not s text n h packs (layout, w, one) = not_linear n layout (known_same n layout (says s text w.0 (λ g. Known n ≡ g) (Known layout) h w.1 w.2)) packs one

pub decides_opened : (s : SmallTexts) (text : List ℕ) (n : Layout) (p : Opened) → Packs n → Has s text (λ g. Known n ≡ g) → ((o : Opened) → o.layout ≡ n → IsOpenedBehind s o → p.youngest ≡ o.youngest) → Decides s (Ok p)
decides_opened s text n p packs h only = record {
  opened = λ o w. only o (layout_is s text n o h w) w.behind;
  none = λ w. is_some s text h.is w;
  other = λ m w. let e = says s text w.0 (λ g. Known n ≡ g) (Other m) h w.1 w.2 in cc;
  linear = λ w. linear_not s text n h packs w;
}

pub decides_refused : (s : SmallTexts) (text : List ℕ) (n : Layout) (fault : SmallFault) → Packs n → Has s text (λ g. Known n ≡ g) → ((o : Opened) → o.layout ≡ n → IsOpenedBehind s o → ⊥) → Decides s (Err (why_not.Small fault))
decides_refused s text n fault packs h only = record {
  opened = λ o w. absurd (only o (layout_is s text n o h w) w.behind);
  none = λ w. absurd (is_some s text h.is w);
  other = λ m w. absurd (let e = says s text w.0 (λ g. Known n ≡ g) (Other m) h w.1 w.2 in cc);
  linear = λ w. absurd (linear_not s text n h packs w);
}

-- the texts are the first bytes of the files of the disk
pub decides_now : (told : Option Trace) (s : SmallTexts) (r : Result Opened OpenFault) → IfSome told (λ t. s ≡ first_texts (small_texts (files_now t))) → Decides s r → IfSome told (λ t. Decides (small_texts (files_now t)) r)
decides_now None s r is d = tt
decides_now (Some t) s r is d = decides_of_first (small_texts (files_now t)) r (subst (λ (x : SmallTexts). Decides x r) is d)

pub opened_now : (told : Option Trace) (s : SmallTexts) (r : Result Opened OpenFault) → IfSome told (λ t. s ≡ first_texts (small_texts (files_now t))) → IfOk r (IsOpened s) → IfSome told (λ t. IfOk r (IsOpened (small_texts (files_now t))))
opened_now None s r is d = tt
opened_now (Some t) s r is d = ok_of_first (small_texts (files_now t)) r (subst (λ (x : SmallTexts). IfOk r (IsOpened x)) is d)
