-- A repository that is refused doesn't open.
use Rattle.std.proofs.Common.{◌≡◌, ℕ, List, inl, inr, sym, ap, subst, ◌∙◌, arith}
use Rattle.std.specs.Prelude.{Option, Some, None}
use Rattle.std.proofs.lemmas.Option.{same_Some}
use Rattle.fsfs_base.proofs.Readers.{all_again, ok_is}
use Rattle.fsfs_base.specs.declared.small_fault.SmallFault.{SmallFault}
use Rattle.fsfs_base.specs.declared.places.open_fault.OpenFault.{OpenFault}
use Rattle.fsfs_base.specs.declared.places.open_fault.OpenFault.TheVariants as opening
use Rattle.fsfs_disk.specs.Trace.{Trace, files_now}
use Rattle.fsfs_layout.specs.Formats.{IsFormat}
use Rattle.fsfs_layout.specs.Layouts.{place_in_shard}
use Rattle.fsfs_layout.specs.Small.{IsRevLine, IsMinUnpackedRevIn, IsMinUnpackedRev, IsMinUnpackedFaultIn}
use Rattle.fsfs_layout.specs.Opening.{SmallTexts, small_texts, IsFsfs, IsNone, IsLinear, IsOpened, IsOpenedBehind, IsRefused, IsRefusedBehind}
use Rattle.fsfs_layout.specs.Folders.{AreShards}
use Rattle.fsfs_layout.specs.declared.format.Format.{Format}
use Rattle.fsfs_layout.specs.declared.format.Format.TheVariants.{Three, Four}
use Rattle.fsfs_layout.specs.declared.small_files.format_file.FormatFile.TheVariants.{Known, Other}
use Rattle.fsfs_layout.specs.declared.layout.Layout.{Layout}
use Rattle.fsfs_layout.specs.declared.opened.Opened.{Opened}
use Rattle.fsfs_layout.proofs.Files.{one_format, rev_line_reads}
use Rattle.fsfs_layout.proofs.OpeningLemmas.{says_one}
use Rattle.fsfs_repo.specs.OpenFaults.{OpensBecause}
use Rattle.fsfs_job_run.specs.Openings.{DoesNotOpen}

-- ---- what a small file says it says alone

one_rev : (text : List ℕ) (m n : ℕ) → IsRevLine text m → IsRevLine text n → m ≡ n
one_rev text m n a b = ok_is m n (sym (all_again rev_line_reads text m a) ∙ all_again rev_line_reads text n b)

one_floor : (k : Format) (layout : Layout) (text : List ℕ) (m n : ℕ) → IsMinUnpackedRevIn k layout text m → IsMinUnpackedRevIn k layout text n → m ≡ n
one_floor Three layout text m n a b = a ∙ sym b
one_floor Four layout text m n a b = one_rev text m n a.0 b.0

-- a floor that is said isn't refused
floor_said : (k : Format) (layout : Layout) (text : List ℕ) (n : ℕ) (fault : SmallFault) → IsMinUnpackedRevIn k layout text n → IsMinUnpackedFaultIn k layout text fault → ⊥
floor_said Three layout text n fault said refused = refused
floor_said Four layout text n fault said (inl unread) = unread.0 n said.0
floor_said Four layout text n fault said (inr within) = within.inside (ap (place_in_shard layout) (one_rev text within.number n within.line said.0) ∙ said.1)

known_same : (a b : Layout) → Known a ≡ Known b → a ≡ b
known_same a b e = cc

-- the format of a repository that opens
pub formatted : (s : SmallTexts) (o : Opened) (text : List ℕ) → IsOpened s o → IsFsfs s text → IsFormat text (Known o.layout)
formatted s o text is there = subst (λ (t : List ℕ). IsFormat t (Known o.layout)) (same_Some is.format.0 text (sym is.format.1.there ∙ there.there)) is.format.2

-- ---- by the cause of the refusal

none_opens : (s : SmallTexts) (o : Opened) → IsOpened s o → IsNone s → ⊥
none_opens s o is (inl none) = let e = sym none ∙ is.format.1.there in cc
none_opens s o is (inr other) = other is.format.1.fs_type

-- a file behind db/format
pub refused_behind : (s : SmallTexts) (o : Opened) (layout : Layout) (fault : SmallFault) → layout ≡ o.layout → IsOpenedBehind s o → IsRefusedBehind layout s fault → ⊥
refused_behind s o layout fault same is (inl uuid) = uuid.0 o.uuid is.uuid
refused_behind s o layout fault same is (inr (uuid, u, inl current)) = current.0 o.youngest is.youngest
refused_behind s o layout fault same is (inr (uuid, u, inr (last, l, inl floor))) =
    floor_said layout.format layout s.min_unpacked_rev o.min_unpacked_rev fault (subst (λ (k : Layout). IsMinUnpackedRev k s.min_unpacked_rev o.min_unpacked_rev) (sym same) is.min_unpacked_rev) floor
refused_behind s o layout fault same is (inr (uuid, u, inr (last, l, inr (inl past)))) =
    let young = one_rev s.current past.youngest o.youngest past.current_is is.youngest in
    let floor = one_floor layout.format layout s.min_unpacked_rev past.min_unpacked_rev o.min_unpacked_rev past.floor_is (subst (λ (k : Layout). IsMinUnpackedRev k s.min_unpacked_rev o.min_unpacked_rev) (sym same) is.min_unpacked_rev) in
    omega (arith, past.past, is.within, young, floor)
refused_behind s o layout fault same is (inr (uuid, u, inr (last, l, inr (inr (floor, f, within, txn))))) = txn.0 o.next_txn.number is.next_txn

refused_opens : (s : SmallTexts) (o : Opened) (fault : SmallFault) → IsOpened s o → IsRefused s fault → ⊥
refused_opens s o fault is (text, there, inl none) = none.0 (Known o.layout) (formatted s o text is there)
refused_opens s o fault is (text, there, inr (layout, format, packs, behind)) =
    refused_behind s o layout fault (known_same layout o.layout (one_format text (Known layout) (Known o.layout) format (formatted s o text is there))) is.behind behind

-- one of one folder doesn't open
linear_opens : (s : SmallTexts) (o : Opened) → IsOpened s o → IsLinear s → ⊥
linear_opens s o is (layout, says, one) =
    let same = known_same o.layout layout (says_one s (Known o.layout) (Known layout) is.format says) in
    subst AreShards (ap (λ (l : Layout). l.folders) same ∙ one) is.packs.sharded

pub does_not_open : (rose : Type 0) (told : Option Trace) (why : OpenFault) → OpensBecause rose told why → DoesNotOpen told why
does_not_open rose None why because = tt
does_not_open rose (Some t) opening.NotRepo because = λ o is. none_opens (small_texts (files_now t)) o is because
does_not_open rose (Some t) (opening.OtherFormat number) because = λ o is.
    let e = one_format because.0 (Other number) (Known o.layout) because.2 (formatted (small_texts (files_now t)) o because.0 is because.1) in cc
does_not_open rose (Some t) opening.Linear because = λ o is. linear_opens (small_texts (files_now t)) o is because
does_not_open rose (Some t) (opening.Small fault) because = λ o is. refused_opens (small_texts (files_now t)) o fault is because
does_not_open rose (Some t) (opening.DiskFault at) because = λ o is. tt
does_not_open rose (Some t) opening.Memory because = λ o is. tt
