-- Entries in byte order of their names, in two parts.
use Rattle.std.proofs.Common.{◌≡◌, true, not, ◌&&◌, List, [], ◌∷◌, ◌++◌, refl, ap, ◌∙◌, Less, Greater}
use Rattle.std.specs.List.{AllByRecursion}
use Rattle.std.specs.Ordering.{is_lt, ordering_reverse}
use Rattle.std.specs.Cmp.Lexicographic.{nat_list_cmp_total}
use Rattle.fsfs_base.specs.Paths.{PathName}
use Rattle.fsfs_revision.specs.Shows.Reading.{DirEntry}
use Rattle.fsfs_revision.proofs.PairLookups.{text_cmp, equal_of}
use Rattle.fsfs_dag.specs.Listing.Lists.{all_names, is_below, is_from, name_keys, NamesRise}

front_above : (k : PathName) (a b : List DirEntry) → AllByRecursion (λ p. text_cmp k p.0 ≡ Less) (name_keys (a ++ b)) → AllByRecursion (λ p. text_cmp k p.0 ≡ Less) (name_keys a)
front_above k [] b h = tt
front_above k (e ∷ a) b h = (h.0, front_above k a b h.1)

pub rise_low : (a b : List DirEntry) → NamesRise (a ++ b) → NamesRise a
rise_low [] b rise = tt
rise_low (e ∷ a) b rise = (front_above e.name a b rise.0, rise_low a b rise.1)

pub rise_high : (a b : List DirEntry) → NamesRise (a ++ b) → NamesRise b
rise_high [] b rise = rise
rise_high (e ∷ a) b rise = rise_high a b rise.1

less_than : (k : PathName) (a : List DirEntry) (e : DirEntry) (b : List DirEntry) → AllByRecursion (λ p. text_cmp k p.0 ≡ Less) (name_keys (a ++ e ∷ b)) → text_cmp k e.name ≡ Less
less_than k [] e b h = h.0
less_than k (x ∷ a) e b h = less_than k a e b h.1

-- those before an entry are below its name
pub rise_below : (a : List DirEntry) (e : DirEntry) (b : List DirEntry) → NamesRise (a ++ e ∷ b) → all_names (is_below e.name) a ≡ true
rise_below [] e b rise = refl
rise_below (x ∷ a) e b rise = λ i. is_lt (less_than x.name a e b rise.0 i) && rise_below a e b rise.1 i

greater : (k x : PathName) → text_cmp k x ≡ Less → text_cmp x k ≡ Greater
greater k x less = nat_list_cmp_total.antisymm x k ∙ ap ordering_reverse less

from_all : (k : PathName) (b : List DirEntry) → AllByRecursion (λ p. text_cmp k p.0 ≡ Less) (name_keys b) → all_names (is_from k) b ≡ true
from_all k [] h = refl
from_all k (x ∷ b) h = λ i. not (is_lt (greater k x.name h.0 i)) && from_all k b h.1 i

-- it and those behind it are not
pub rise_from : (e : DirEntry) (b : List DirEntry) → NamesRise (e ∷ b) → all_names (is_from e.name) (e ∷ b) ≡ true
rise_from e b rise = λ i. not (is_lt (equal_of e.name e.name refl i)) && from_all e.name b rise.0 i
