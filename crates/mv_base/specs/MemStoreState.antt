-- What a store in memory shows of itself.
use Rattle.std.specs.Prelude.{◌≡◌, ℕ, List, Option}
use Rattle.std.specs.Option.{option_map}
use Rattle.std.specs.String.{string_bytes}
use Rattle.std.specs.BTreeMap.{get_by_text}
use Rattle.mv_base.specs.declared.mem_store.MemStore.{MemStore}

-- what the store holds: the bytes of each name that is held
abbrev pub held_bytes : MemStore → List ℕ → Option (List ℕ)
held_bytes s name = option_map (λ v. v.items) (get_by_text s.files name)

-- the numbers of the calls of `get` that are to fail
abbrev pub failing_gets : MemStore → List ℕ
failing_gets s = s.fail_gets.items

-- the numbers of the calls of `put` that are to fail
abbrev pub failing_puts : MemStore → List ℕ
failing_puts s = s.fail_puts.items

-- how many calls of `get` there were
abbrev pub get_count : MemStore → ℕ
get_count s = s.gets

-- how many calls of `put` there were
abbrev pub put_count : MemStore → ℕ
put_count s = s.puts

-- how many calls of `get` failed
abbrev pub read_fault_count : MemStore → ℕ
read_fault_count s = s.read_faults

-- how many calls of `put` failed
abbrev pub write_fault_count : MemStore → ℕ
write_fault_count s = s.write_faults

-- the name in the last call that failed
abbrev pub failed_name : MemStore → List ℕ
failed_name s = string_bytes s.failed

-- the two stores have the same failing calls, the same counts and the same failed name
pub record SameCalls (old new : MemStore) : Type 0 where
  pub failing_gets_same : failing_gets new ≡ failing_gets old
  pub failing_puts_same : failing_puts new ≡ failing_puts old
  pub get_count_same : get_count new ≡ get_count old
  pub put_count_same : put_count new ≡ put_count old
  pub read_fault_count_same : read_fault_count new ≡ read_fault_count old
  pub write_fault_count_same : write_fault_count new ≡ write_fault_count old
  pub failed_name_same : failed_name new ≡ failed_name old
