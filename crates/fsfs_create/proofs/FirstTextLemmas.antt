-- What the first bytes of the small files tell is what the files tell.
use Rattle.std.proofs.Common.{◌≡◌, ◌≤◌, ◌-◌, ℕ, zero, suc, List, [], ◌∷◌, ◌++◌, length, take, drop, inl, inr, ⊎_elim, refl, sym, ap, subst, ◌∙◌, append_assoc, arith}
use Rattle.std.specs.Prelude.{Option, Some, None, Result, Ok, Err, IfOk, option_map, codes}
use Rattle.std.proofs.lemmas.Option.{same_Some}
use Rattle.std.proofs.lemmas.List.{take-append-drop}
use Rattle.fsfs_base.specs.declared.small_fault.SmallFault.{SmallFault}
use Rattle.fsfs_base.specs.declared.small_fault.SmallFile.{SmallFile}
use Rattle.fsfs_layout.specs.Formats.{IsFormat, IsOurFormat}
use Rattle.fsfs_layout.specs.Small.{IsUuid, IsRevLine, IsMinUnpackedRevIn, IsMinUnpackedRev, IsBase36Line, IsRefusedFile, IsMinUnpackedFaultIn, IsMinUnpackedFault}
use Rattle.fsfs_layout.specs.declared.format.Format.{Format}
use Rattle.fsfs_layout.specs.declared.format.Format.TheVariants.{Three, Four}
use Rattle.fsfs_layout.specs.declared.small_files.format_file.FormatFile.{FormatFile}
use Rattle.fsfs_layout.specs.declared.small_files.format_file.FormatFile.TheVariants.{Known, Other}
use Rattle.fsfs_layout.specs.declared.layout.Layout.{Layout}
use Rattle.fsfs_layout.specs.declared.opened.Opened.{Opened}
use Rattle.fsfs_layout.specs.Opening.{SmallTexts, SaysFormat, IsFsfs, IsNone, IsOpened, IsOpenedBehind, IsRefused, IsRefusedFormat, IsRefusedBehind, IsPastYoungest}
use Rattle.fsfs_disk.specs.WholeFiles.FirstBytes.{IsShorter}
use Rattle.fsfs_disk.proofs.FirstBytesLemmas.{all_of_short, text_of_first, first_of_text, fault_of_first}
use Rattle.fsfs_create.specs.FirstTexts.{first_texts}
use Rattle.fsfs_create.specs.Deciding.{Decides}
use Rattle.fsfs_create.specs.OpenFaults.{JudgedBecause}
use Rattle.fsfs_create.proofs.ShortTexts.{decimal_line_short, rev_line_short, base36_line_short, uuid_short, our_format_short}
use Rattle.fsfs_base.specs.declared.places.open_fault.OpenFault.{OpenFault}
use Rattle.fsfs_base.specs.declared.places.open_fault.OpenFault.TheVariants as why_not

-- ---- db/format, behind whose number anything may stand in another format

format_of_first : (text : List ℕ) (f : FormatFile) → IsFormat (take 64 text) f → IsFormat text f
format_of_first text (Known layout) ours = text_of_first IsOurFormat 64 text (layout.format, layout.folders) our_format_short ours
format_of_first text (Other number) other = record {
  rest = other.rest ++ drop 64 text;
  line = record {
    front = other.line.front;
    text = other.line.text;
    parts = sym (take-append-drop 64 text) ∙ ap (λ (t : List ℕ). t ++ drop 64 text) other.line.parts ∙ append_assoc other.line.front other.rest (drop 64 text);
  };
  other = other.other;
}

take_behind : (k : ℕ) (front rest : List ℕ) → length front ≤ k → take k (front ++ rest) ≡ front ++ take (k - length front) rest
take_behind k [] rest le = ap (λ (n : ℕ). take n rest) (omega arith)
take_behind zero (c ∷ front) rest le = absurd (omega (arith, le))
take_behind (suc k) (c ∷ front) rest le =
    let left : k - length front ≡ suc k - suc (length front) = omega arith in
    ap (λ (t : List ℕ). c ∷ t) (take_behind k front rest (omega (arith, le)) ∙ ap (λ (n : ℕ). front ++ take n rest) left)

first_of_format : (text : List ℕ) (f : FormatFile) → IsFormat text f → IsFormat (take 64 text) f
first_of_format text (Known layout) ours = first_of_text IsOurFormat 64 text (layout.format, layout.folders) our_format_short ours
first_of_format text (Other number) other =
    let short : length other.line.front ≤ 21 = decimal_line_short 18446744073709551615 10 other.line.front number (omega arith) other.line.text in
    record {
      rest = take (64 - length other.line.front) other.rest;
      line = record {
        front = other.line.front;
        text = other.line.text;
        parts = ap (λ (t : List ℕ). take 64 t) other.line.parts ∙ take_behind 64 other.line.front other.rest (omega (arith, short));
      };
      other = other.other;
    }

-- ---- a repository of this type of filesystem

fsfs_of_first : (text : List ℕ) → take 64 text ≡ codes "fsfs\n" → text ≡ codes "fsfs\n"
fsfs_of_first text is =
    let size : length (take 64 text) ≡ 5 = ap length is in
    sym (all_of_short 64 text (omega (arith, size))) ∙ is

first_of_fsfs : (text : List ℕ) → text ≡ codes "fsfs\n" → take 64 text ≡ codes "fsfs\n"
first_of_fsfs text is = ap (λ (t : List ℕ). take 64 t) is

-- the format that is there, whole
record WholeFormat (s : SmallTexts) (first : List ℕ) : Type 0 where
  pub text : List ℕ
  pub is : IsFsfs s text
  pub begins : take 64 text ≡ first

whole_format : (s : SmallTexts) (first : List ℕ) → IsFsfs (first_texts s) first → WholeFormat s first
whole_format s first w = go s.format refl w.there
  where
    go : (f : Option (List ℕ)) → s.format ≡ f → option_map (λ (bytes : List ℕ). take 64 bytes) f ≡ Some first → WholeFormat s first
    go None e h = absurd cc
    go (Some text) e h = record { text = text; is = record { there = e; fs_type = fsfs_of_first s.fs_type w.fs_type }; begins = same_Some (take 64 text) first h }

first_format : (s : SmallTexts) (text : List ℕ) → IsFsfs s text → IsFsfs (first_texts s) (take 64 text)
first_format s text w = record { there = ap (option_map (λ (bytes : List ℕ). take 64 bytes)) w.there; fs_type = first_of_fsfs s.fs_type w.fs_type }

none_of_first : (s : SmallTexts) → IsNone (first_texts s) → IsNone s
none_of_first s (inl none) = inl (go s.format none)
  where
    go : (f : Option (List ℕ)) → option_map (λ (bytes : List ℕ). take 64 bytes) f ≡ None → f ≡ None
    go None h = refl
    go (Some text) h = absurd cc
none_of_first s (inr other) = inr (λ is. other (first_of_fsfs s.fs_type is))

first_of_none : (s : SmallTexts) → IsNone s → IsNone (first_texts s)
first_of_none s (inl none) = inl (ap (option_map (λ (bytes : List ℕ). take 64 bytes)) none)
first_of_none s (inr other) = inr (λ is. other (fsfs_of_first s.fs_type is))

-- what db/format says
says_of_first : (s : SmallTexts) (f : FormatFile) → SaysFormat (first_texts s) f → SaysFormat s f
says_of_first s f w =
    let h = whole_format s w.0 w.1 in
    (h.text, h.is, format_of_first h.text f (subst (λ (t : List ℕ). IsFormat t f) (sym h.begins) w.2))

first_of_says : (s : SmallTexts) (f : FormatFile) → SaysFormat s f → SaysFormat (first_texts s) f
first_of_says s f w = (take 64 w.0, first_format s w.0 w.1, first_of_format w.0 f w.2)

-- ---- opened

floor_text_of_first : (layout : Layout) (text : List ℕ) (n : ℕ) → IsMinUnpackedRev layout (take 64 text) n → IsMinUnpackedRev layout text n
floor_text_of_first layout text n = by_format layout.format
  where
    by_format : (k : Format) → IsMinUnpackedRevIn k layout (take 64 text) n → IsMinUnpackedRevIn k layout text n
    by_format Three none = none
    by_format Four line = (text_of_first IsRevLine 64 text n rev_line_short line.0, line.1)

first_of_floor_text : (layout : Layout) (text : List ℕ) (n : ℕ) → IsMinUnpackedRev layout text n → IsMinUnpackedRev layout (take 64 text) n
first_of_floor_text layout text n = by_format layout.format
  where
    by_format : (k : Format) → IsMinUnpackedRevIn k layout text n → IsMinUnpackedRevIn k layout (take 64 text) n
    by_format Three none = none
    by_format Four line = (first_of_text IsRevLine 64 text n rev_line_short line.0, line.1)

behind_of_first : (s : SmallTexts) (o : Opened) → IsOpenedBehind (first_texts s) o → IsOpenedBehind s o
behind_of_first s o w = record {
  uuid = text_of_first IsUuid 64 s.uuid o.uuid uuid_short w.uuid;
  youngest = text_of_first IsRevLine 64 s.current o.youngest rev_line_short w.youngest;
  min_unpacked_rev = floor_text_of_first o.layout s.min_unpacked_rev o.min_unpacked_rev w.min_unpacked_rev;
  within = w.within;
  next_txn = text_of_first IsBase36Line 64 s.txn_current o.next_txn.number base36_line_short w.next_txn;
}

first_of_behind : (s : SmallTexts) (o : Opened) → IsOpenedBehind s o → IsOpenedBehind (first_texts s) o
first_of_behind s o w = record {
  uuid = first_of_text IsUuid 64 s.uuid o.uuid uuid_short w.uuid;
  youngest = first_of_text IsRevLine 64 s.current o.youngest rev_line_short w.youngest;
  min_unpacked_rev = first_of_floor_text o.layout s.min_unpacked_rev o.min_unpacked_rev w.min_unpacked_rev;
  within = w.within;
  next_txn = first_of_text IsBase36Line 64 s.txn_current o.next_txn.number base36_line_short w.next_txn;
}

pub opened_of_first : (s : SmallTexts) (o : Opened) → IsOpened (first_texts s) o → IsOpened s o
opened_of_first s o w = record { format = says_of_first s (Known o.layout) w.format; packs = w.packs; behind = behind_of_first s o w.behind }

first_of_opened : (s : SmallTexts) (o : Opened) → IsOpened s o → IsOpened (first_texts s) o
first_of_opened s o w = record { format = first_of_says s (Known o.layout) w.format; packs = w.packs; behind = first_of_behind s o w.behind }

-- ---- refused

refused_of_first : {X : Type 0} (file : SmallFile) (G : List ℕ → X → Type 0) (text : List ℕ) (fault : SmallFault) → IsShorter 64 G → IsRefusedFile file G (take 64 text) fault → IsRefusedFile file G text fault
refused_of_first file G text fault short w = (
  λ x g. w.0 x (first_of_text G 64 text x short g),
  record { names = w.1.names; place = fault_of_first G 64 text fault.at short w.1.place },
)

floor_of_first : (layout : Layout) (text : List ℕ) (fault : SmallFault) → IsMinUnpackedFault layout (take 64 text) fault → IsMinUnpackedFault layout text fault
floor_of_first layout text fault = by_format layout.format
  where
    by_format : (k : Format) → IsMinUnpackedFaultIn k layout (take 64 text) fault → IsMinUnpackedFaultIn k layout text fault
    by_format Three none = absurd none
    by_format Four (inl w) = inl (refused_of_first _ IsRevLine text fault rev_line_short w)
    by_format Four (inr w) = inr (record { number = w.number; line = text_of_first IsRevLine 64 text w.number rev_line_short w.line; inside = w.inside; names = w.names; place = w.place })

past_of_first : (layout : Layout) (s : SmallTexts) (fault : SmallFault) → IsPastYoungest layout (first_texts s) fault → IsPastYoungest layout s fault
past_of_first layout s fault w = record {
  youngest = w.youngest;
  min_unpacked_rev = w.min_unpacked_rev;
  current_is = text_of_first IsRevLine 64 s.current w.youngest rev_line_short w.current_is;
  floor_is = floor_text_of_first layout s.min_unpacked_rev w.min_unpacked_rev w.floor_is;
  past = w.past;
  names = w.names;
  place = w.place;
}

behind_refused : (layout : Layout) (s : SmallTexts) (fault : SmallFault) → IsRefusedBehind layout (first_texts s) fault → IsRefusedBehind layout s fault
behind_refused layout s fault (inl w) = inl (refused_of_first _ IsUuid s.uuid fault uuid_short w)
behind_refused layout s fault (inr w) = inr (
  w.0,
  text_of_first IsUuid 64 s.uuid w.0 uuid_short w.1,
  ⊎_elim (λ current. inl (refused_of_first _ IsRevLine s.current fault rev_line_short current))
      (λ v. inr (
        v.0,
        text_of_first IsRevLine 64 s.current v.0 rev_line_short v.1,
        ⊎_elim (λ floor. inl (floor_of_first layout s.min_unpacked_rev fault floor))
            (λ u. inr (⊎_elim (λ past. inl (past_of_first layout s fault past))
            (λ x. inr (
              x.0,
              floor_text_of_first layout s.min_unpacked_rev x.0 x.1,
              x.2,
              refused_of_first _ IsBase36Line s.txn_current fault base36_line_short x.3,
            )) u)) v.2,
      )) w.2,
)

format_refused : (text : List ℕ) (fault : SmallFault) → IsRefusedFormat (take 64 text) fault → IsRefusedFormat text fault
format_refused text fault w = (
  λ f g. w.0 f (first_of_format text f g),
  record { names = w.1.names; place = fault_of_first IsOurFormat 64 text fault.at our_format_short w.1.place },
)

small_of_first : (s : SmallTexts) (fault : SmallFault) → IsRefused (first_texts s) fault → IsRefused s fault
small_of_first s fault w =
    let h = whole_format s w.0 w.1 in (
      h.text,
      h.is,
      ⊎_elim (λ format. inl (format_refused h.text fault (subst (λ (t : List ℕ). IsRefusedFormat t fault) (sym h.begins) format)))
          (λ v. inr (
            v.0,
            format_of_first h.text (Known v.0) (subst (λ (t : List ℕ). IsFormat t (Known v.0)) (sym h.begins) v.1),
            v.2,
            behind_refused v.0 s fault v.3,
          )) w.2,
    )

-- ---- what is judged by the first bytes is judged by the files

pub because_of_first : (s : SmallTexts) (why : OpenFault) → JudgedBecause (first_texts s) why → JudgedBecause s why
because_of_first s why_not.NotRepo h = none_of_first s h
because_of_first s (why_not.OtherFormat number) h = says_of_first s (Other number) h
because_of_first s why_not.Linear h = (h.0, says_of_first s (Known h.0) h.1, h.2)
because_of_first s (why_not.Small fault) h = small_of_first s fault h
because_of_first s (why_not.DiskFault place) h = absurd h
because_of_first s why_not.Memory h = absurd h

pub decides_of_first : (s : SmallTexts) (r : Result Opened OpenFault) → Decides (first_texts s) r → Decides s r
decides_of_first s r d = record {
  opened = λ o w. d.opened o (first_of_opened s o w);
  none = λ w. d.none (first_of_none s w);
  other = λ number w. d.other number (first_of_says s (Other number) w);
  linear = λ w. d.linear (w.0, first_of_says s (Known w.0) w.1, w.2);
}

pub ok_of_first : (s : SmallTexts) (r : Result Opened OpenFault) → IfOk r (IsOpened (first_texts s)) → IfOk r (IsOpened s)
ok_of_first s (Ok o) h = opened_of_first s o h
ok_of_first s (Err why) h = tt
