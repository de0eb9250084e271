-- Representations: `<revision> <offset> <length> <size> <md5>`, and behind it ` <sha1> <transaction>/_<number>` or nothing.
use Rattle.std.specs.Prelude.{◌≡◌, ℕ, List, [], ◌∷◌, Option, Some, None, Result, Ok, Err, option_map, ◌==◌, if◌then◌else◌, codes}
use Rattle.std.specs.List.{list_any}
use Rattle.std.specs.Str.{bytes_eq}
use Rattle.hex.specs.Hex.{decode_sized}
use Rattle.hex.specs.declared.error.FromHexError.{FromHexError}
use Rattle.fsfs_base.specs.Grammar.Cuts.{IsCutOf, cut, and_then, parts_at}
use Rattle.fsfs_base.specs.Fields.Digests.{is_capital, IsDigestText}
use Rattle.fsfs_base.specs.Fields.TxnNames.{IsTxnName, txn_name_at}
use Rattle.fsfs_base.specs.Fields.RevNums.{IsRev, rev_at}
use Rattle.fsfs_noderev.specs.Ids.{IsB36, IsNumber64, b36_at, number_at}
use Rattle.fsfs_noderev.specs.declared.rep.Rep.{Rep}
use Rattle.fsfs_noderev.specs.declared.rep.Uniquifier.{Uniquifier}
use Rattle.fsfs_noderev.specs.declared.rep.Contents.{Contents}
use Rattle.fsfs_noderev.specs.declared.rep.Contents.TheVariants as contents

-- what tells one text from an equal one: its SHA-1, the base and the number of its transaction, and its own number
pub record UniquifierValue : Type 0 where
  pub sha1 : List ℕ
  pub base : ℕ
  pub txn : ℕ
  pub number : ℕ

pub record RepValue : Type 0 where
  pub rev : Option ℕ
  pub offset : ℕ
  pub length : ℕ
  pub size : ℕ
  pub md5 : List ℕ
  pub unique : Option UniquifierValue

pub data ContentsValue : Type 0 where
  Own : ContentsValue
  At : RepValue → ContentsValue

abbrev pub unique_value : Uniquifier → UniquifierValue
unique_value u = record { sha1 = u.sha1.bytes; base = u.txn.base; txn = u.txn.number.number; number = u.number.number }

abbrev pub rep_value : Rep → RepValue
rep_value r = record { rev = r.rev; offset = r.offset; length = r.length; size = r.size; md5 = r.md5.bytes; unique = option_map unique_value r.unique }

abbrev pub contents_value : Contents → ContentsValue
contents_value contents.Own = Own
contents_value (contents.At r) = At (rep_value r)

-- a revision, or `-1` for none
abbrev pub IsRevOrNone : List ℕ → Option ℕ → Type 0
IsRevOrNone text None = text ≡ codes "-1"
IsRevOrNone text (Some rev) = IsRev text rev

-- `_<number>`
abbrev pub IsMarked : List ℕ → ℕ → Type 0
IsMarked text n = (digits : List ℕ) × IsB36 digits n × (text ≡ 95 ∷ digits)

abbrev pub IsUnique : List ℕ → UniquifierValue → Type 0
IsUnique text u = IsCutOf 32 (IsDigestText 20) (IsCutOf 47 IsTxnName IsMarked) text (u.sha1, ((u.base, u.txn), u.number))

-- the MD5, and a SHA-1 and a uniquifier or neither
abbrev pub AreDigests : List ℕ → List ℕ × Option UniquifierValue → Type 0
AreDigests text (md5, None) = IsDigestText 16 text md5
AreDigests text (md5, Some u) = IsCutOf 32 (IsDigestText 16) IsUnique text (md5, u)

abbrev pub IsRep : List ℕ → RepValue → Type 0
IsRep text r = IsCutOf 32 IsRevOrNone (IsCutOf 32 IsNumber64 (IsCutOf 32 IsNumber64 (IsCutOf 32 IsNumber64 AreDigests))) text (r.rev, (r.offset, (r.length, (r.size, (r.md5, r.unique)))))

-- `-1`, which says that the value stands in the transaction's own file, or a representation
abbrev pub AreContents : List ℕ → ContentsValue → Type 0
AreContents text Own = text ≡ codes "-1"
AreContents text (At r) = IsRep text r

-- reading
abbrev pub rev_or_none_at : List ℕ → Option (Option ℕ)
rev_or_none_at text = if bytes_eq text (codes "-1") then Some None else and_then (rev_at text) (λ rev. Some (Some rev))

abbrev pub result_ok : Result (List ℕ) FromHexError → Option (List ℕ)
result_ok (Ok bytes) = Some bytes
result_ok (Err e) = None

unfoldable pub digest_at : ℕ → List ℕ → Option (List ℕ)
digest_at n text = if list_any is_capital text then None else result_ok (decode_sized text n)

unfoldable pub marked_at : List ℕ → Option ℕ
marked_at [] = None
marked_at (b ∷ bs) = if b == 95 then b36_at bs else None

unfoldable pub unique_at : List ℕ → Option UniquifierValue
unique_at text = and_then (parts_at 32 (digest_at 20) (λ t. parts_at 47 txn_name_at marked_at t) text) (λ p. Some (record { sha1 = p.0; base = p.1.0.0; txn = p.1.0.1; number = p.1.1 }))

abbrev pub split_digests : List ℕ → Option (List ℕ × List ℕ) → Option (List ℕ × Option UniquifierValue)
split_digests text None = and_then (digest_at 16 text) (λ md5. Some (md5, None))
split_digests text (Some p) = and_then (digest_at 16 p.0) (λ md5. and_then (unique_at p.1) (λ u. Some (md5, Some u)))

unfoldable pub digests_at : List ℕ → Option (List ℕ × Option UniquifierValue)
digests_at text = split_digests text (cut 32 text)

unfoldable pub rep_at : List ℕ → Option RepValue
rep_at text = and_then (parts_at 32 rev_or_none_at (λ t. parts_at 32 number_at (λ t. parts_at 32 number_at (λ t. parts_at 32 number_at digests_at t) t) t) text)
    (λ p. Some (record { rev = p.0; offset = p.1.0; length = p.1.1.0; size = p.1.1.1.0; md5 = p.1.1.1.1.0; unique = p.1.1.1.1.1 }))

unfoldable pub contents_at : List ℕ → Option ContentsValue
contents_at text = if bytes_eq text (codes "-1") then Some Own else and_then (rep_at text) (λ r. Some (At r))
