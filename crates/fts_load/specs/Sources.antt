-- The files that a load copies, by its number. The number begins a generator, and each file draws two words of it, one file after another.
use Rattle.std.specs.Prelude.{ℕ, zero, suc, ◌+◌, ◌-◌, ◌%◌, List, ◌++◌, map, codes, decimal}
use Rattle.std.specs.List.{range_with_len}
use Rattle.rand_pcg.specs.Lcg.{Lcg, started, increment_of}
use Rattle.rand_pcg.specs.Pcg.{multiplier_64, pcg32}
use Rattle.fts_tables.specs.declared.places.Place.{Place}
use Rattle.fts_store.specs.declared.held.StoredFile.{StoredFile}

-- how many files there are; they are numbered from 1
unfoldable pub file_count : ℕ
file_count = 2000

-- the generator of a number, PCG XSH RR 64/32 on stream 1, once so many files have drawn their two words
unfoldable pub generator_behind : ℕ → ℕ → Lcg
generator_behind number zero = started 64 multiplier_64 number (increment_of 64 1)
generator_behind number (suc files) = (pcg32 (pcg32 (generator_behind number files)).1).1

-- a file's two words
abbrev pub first_word : ℕ → ℕ → ℕ
first_word number file = (pcg32 (generator_behind number (file - 1))).0

abbrev pub second_word : ℕ → ℕ → ℕ
second_word number file = (pcg32 (pcg32 (generator_behind number (file - 1))).1).0

-- so many bytes, each greater by one than the byte before it, from a first byte on; behind 255 comes 0
abbrev pub rising_bytes : ℕ → ℕ → List ℕ
rising_bytes start size = map (λ at. (start + at) % 256) (range_with_len 0 size)

-- the content of a file: the first word is for its size, the second for its first byte
unfoldable pub source_bytes : ℕ → ℕ → List ℕ
source_bytes number file = rising_bytes (second_word number file % 256) (first_word number file % 4096)

-- where a file is, on the endpoint of the sources
unfoldable pub source_place : List ℕ → ℕ → Place
source_place endpoint file = record { endpoint = endpoint; path = codes "load/s" ++ decimal file }

-- a file: its place and its content
abbrev pub source_file : List ℕ → ℕ → ℕ → StoredFile
source_file endpoint number file = record { place = source_place endpoint file; bytes = source_bytes number file }

-- the first files of a load, so many
abbrev pub first_sources : List ℕ → ℕ → ℕ → List StoredFile
first_sources endpoint number count = map (source_file endpoint number) (range_with_len 1 count)

-- the files of a load
abbrev pub sources : List ℕ → ℕ → List StoredFile
sources endpoint number = first_sources endpoint number file_count
