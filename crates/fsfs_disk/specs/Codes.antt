-- How what is seen of a disk is stored as a value.
use Rattle.std.specs.Prelude.{◌≡◌, ℕ, Bool, List, ◌⊎◌, Option, Some, None}
use Rattle.std.proofs.Common.{inl, inr, refl}
use Rattle.std.specs.Coded.{Coded, code_by, coded×, coded⊎, coded_ℕ, coded_list, coded_option, coded_bool}
use Rattle.std.specs.FinMap as map
use Rattle.fsfs_base.specs.Files.{Files}
use Rattle.fsfs_disk.specs.Labels.{Label, Txn, Pack, HotCopy}
use Rattle.fsfs_disk.specs.Trace.{NameChange, Put, Adopt, Rename, Remove, FirmNames, KeepLabel, DropLabel, Operation, Done, Attempted, Trace}
use Rattle.fsfs_disk.specs.Seen.{DiskSeen}

abbrev pub LabelParts : Type 0
LabelParts = (ℕ × ℕ) ⊎ Option ℕ

abbrev pub parts_of_label : Label → LabelParts
parts_of_label (Txn base number) = inl (base, number)
parts_of_label (Pack shard) = inr (Some shard)
parts_of_label HotCopy = inr None

abbrev pub label_from : LabelParts → Label
label_from (inl p) = Txn p.0 p.1
label_from (inr (Some shard)) = Pack shard
label_from (inr None) = HotCopy

pub same_label : (l : Label) → label_from (parts_of_label l) ≡ l
same_label (Txn base number) = refl
same_label (Pack shard) = refl
same_label HotCopy = refl

abbrev pub coded_label : Coded Label
coded_label = code_by LabelParts (coded⊎ (coded× coded_ℕ coded_ℕ) (coded_option coded_ℕ)) parts_of_label label_from same_label

abbrev pub coded_text : Coded (List ℕ)
coded_text = coded_list coded_ℕ

abbrev pub ChangeParts : Type 0
ChangeParts = ((List ℕ × List ℕ) ⊎ (List ℕ × List ℕ)) ⊎ (((List ℕ × List ℕ) ⊎ Option (List ℕ)) ⊎ (Label ⊎ Label))

abbrev pub parts_of_change : NameChange → ChangeParts
parts_of_change (Put name bytes) = inl (inl (name, bytes))
parts_of_change (Adopt name bytes) = inl (inr (name, bytes))
parts_of_change (Rename from to) = inr (inl (inl (from, to)))
parts_of_change (Remove name) = inr (inl (inr (Some name)))
parts_of_change FirmNames = inr (inl (inr None))
parts_of_change (KeepLabel l) = inr (inr (inl l))
parts_of_change (DropLabel l) = inr (inr (inr l))

abbrev pub change_from : ChangeParts → NameChange
change_from (inl (inl p)) = Put p.0 p.1
change_from (inl (inr p)) = Adopt p.0 p.1
change_from (inr (inl (inl p))) = Rename p.0 p.1
change_from (inr (inl (inr (Some name)))) = Remove name
change_from (inr (inl (inr None))) = FirmNames
change_from (inr (inr (inl l))) = KeepLabel l
change_from (inr (inr (inr l))) = DropLabel l

pub same_change : (c : NameChange) → change_from (parts_of_change c) ≡ c
same_change (Put name bytes) = refl
same_change (Adopt name bytes) = refl
same_change (Rename from to) = refl
same_change (Remove name) = refl
same_change FirmNames = refl
same_change (KeepLabel l) = refl
same_change (DropLabel l) = refl

abbrev pub coded_change : Coded NameChange
coded_change = code_by ChangeParts
    (coded⊎ (coded⊎ (coded× coded_text coded_text) (coded× coded_text coded_text)) (coded⊎ (coded⊎ (coded× coded_text coded_text) (coded_option coded_text)) (coded⊎ coded_label coded_label)))
    parts_of_change change_from same_change

abbrev pub parts_of_operation : Operation → NameChange ⊎ NameChange
parts_of_operation (Done change) = inl change
parts_of_operation (Attempted change) = inr change

abbrev pub operation_from : NameChange ⊎ NameChange → Operation
operation_from (inl change) = Done change
operation_from (inr change) = Attempted change

pub same_operation : (o : Operation) → operation_from (parts_of_operation o) ≡ o
same_operation (Done change) = refl
same_operation (Attempted change) = refl

abbrev pub coded_operation : Coded Operation
coded_operation = code_by (NameChange ⊎ NameChange) (coded⊎ coded_change coded_change) parts_of_operation operation_from same_operation

abbrev pub coded_trace : Coded Trace
coded_trace = code_by (Files × (List Label × List Operation)) (coded× (map.code coded_text coded_text) (coded× (coded_list coded_label) (coded_list coded_operation)))
    (λ t. (t.first, (t.labels, t.operations)))
    (λ p. record { first = p.0; labels = p.1.0; operations = p.1.1 })
    (λ _. refl)

abbrev pub coded_told : Coded (Option Trace)
coded_told = coded_option coded_trace

abbrev pub coded_seen : Coded DiskSeen
coded_seen = code_by (List ℕ × (Option Trace × (ℕ × (ℕ × Bool)))) (coded× coded_text (coded× coded_told (coded× coded_ℕ (coded× coded_ℕ coded_bool))))
    (λ s. (s.mount_path, (s.trace, (s.faults, (s.bench_faults, s.failed)))))
    (λ p. record { mount_path = p.0; trace = p.1.0; faults = p.1.1.0; bench_faults = p.1.1.1.0; failed = p.1.1.1.1 })
    (λ _. refl)
