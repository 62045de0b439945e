-- The keys of a history, and who writes and who reads them.
use Rattle.std.specs.Prelude.{ℕ, ◌<◌, ◌≡◌, Bool, true, ◌||◌, ◌==◌, List, [], ◌++◌, map, filter, flat_map, fold, if◌then◌else◌, bytes_eq}
use Rattle.std.specs.List.{list_any, range_with_len}
use Rattle.std.specs.Ordering.{nat_cmp}
use Rattle.std.specs.Cmp.Lexicographic.{slice_cmp}
use Rattle.std.specs.BTreeSet.{insert_key}
use Rattle.tcc_reads.specs.History.{Entry, History, count, entry_at}
use Rattle.tcc_graph.specs.Relations.{reads_from}
use Rattle.tcc_graph.specs.KeyIndices.{name_of}

-- a list of names has the name x
abbrev pub has_name : List (List ℕ) → List ℕ → Bool
has_name names x = list_any (bytes_eq x) names

-- the keys in operations of a committed transaction: those that it writes visibly, and those of its external reads (any other
-- read follows an own write of its key)
abbrev pub keys_of : Entry → List (List ℕ)
keys_of e = e.writes ++ map (λ read. read.0) e.reads

-- the names, each inserted in byte order unless it is there already
abbrev pub with_names : List (List ℕ) → List (List ℕ) → List (List ℕ)
with_names sorted names = fold (insert_key (slice_cmp nat_cmp)) sorted names

-- the keys in operations of committed transactions, in byte order, each once
abbrev pub keys : History → List (List ℕ)
keys h = with_names [] (flat_map keys_of h.entries)

-- the key at an index among them
abbrev pub key_at : History → ℕ → List ℕ
key_at h k = name_of (keys h) k

abbrev pub is_key : History → List ℕ → Bool
is_key h x = list_any (λ e. has_name (keys_of e) x) h.entries

-- b writes the key x visibly; `init` writes every key
abbrev pub writes : History → ℕ → List ℕ → Bool
writes h b x = (b == 0) || has_name (entry_at h b).writes x

abbrev pub IsWriter : History → ℕ → List ℕ → Type 0
IsWriter h b x = (b < count h) × (writes h b x ≡ true)

-- the numbers of a history's transactions
abbrev pub numbers : History → List ℕ
numbers h = range_with_len 0 (count h)

-- the transactions that write the key x, by number; none if x is not a key of h
abbrev pub writers : History → List ℕ → List ℕ
writers h x = if is_key h x then filter (λ b. writes h b x) (numbers h) else []

-- the transactions that read the key x from a, by number
abbrev pub readers : History → ℕ → List ℕ → List ℕ
readers h a x = filter (λ b. has_name (reads_from h a b) x) (numbers h)
