-- Rounds one after the other: what is left of them comes to the same as all of them.
use Rattle.std.proofs.Common.{◌≡◌, ℕ, zero, suc, ◌-◌, ◌<◌, ◌≤◌, Bool, true, false, List, [], ◌∷◌, None, sym, ap, ap₂, ◌∙◌, arith}
use Rattle.mv_base.specs.Memory.{Memory}
use Rattle.mv_base.specs.Effects.{Descs}
use Rattle.x86_insn.specs.declared.insn.Insn.{Insn}
use Rattle.x86_insn.specs.declared.registers.Core.{Core}
use Rattle.x86_insn.specs.declared.stop.Stop.{Stop}
use Rattle.x86_insn.specs.declared.ask.Ask.{Ask}
use Rattle.x86_insn.specs.declared.ask.Ask.TheVariants.{Ends}
use Rattle.x86_insn.specs.Round.{round}
use Rattle.x86_insn.specs.Step.{Ended, Halted, answered, asks, turn, Rounds, Completed, Broken, after_turn, rounds}

rounds-more : (n : ℕ) (i : Insn) (ds : Descs) (c : Core) (m : Memory) → 0 < n → rounds n i ds c m ≡ after_turn (turn m (round i ds c)) c m (rounds (n - 1) i ds)
unfolding rounds
rounds-more zero i ds c m some = absurd (omega arith)
rounds-more (suc n) i ds c m some = let less : n ≡ suc n - 1 = omega arith in ap (λ k. after_turn (turn m (round i ds c)) c m (rounds k i ds)) less

module _ (all : Rounds) (n : ℕ) (i : Insn) (ds : Descs) (c : Core) (m : Memory) (left : all ≡ rounds n i ds c m) where
  -- one more round, and then others
  pub goes-on : (d : Core) (m' : Memory) (again : Bool) → 0 < n → turn m (round i ds c) ≡ Ended d m' again → again ≡ true → all ≡ rounds (n - 1) i ds d m'
  goes-on d m' again some is yes_again = left ∙ rounds-more n i ds c m some ∙ ap (λ t. after_turn t c m (rounds (n - 1) i ds)) (is ∙ ap (Ended d m') yes_again)

  -- the last round
  pub ends-there : (d : Core) (m' : Memory) (again : Bool) → 0 < n → turn m (round i ds c) ≡ Ended d m' again → again ≡ false → all ≡ Completed d m'
  ends-there d m' again some is last = left ∙ rounds-more n i ds c m some ∙ ap (λ t. after_turn t c m (rounds (n - 1) i ds)) (is ∙ ap (Ended d m') last)

  -- a round that stops; core and memory are as they were before it
  pub stops-there : (why : Stop) (c' : Core) (m' : Memory) → 0 < n → turn m (round i ds c) ≡ Halted why → c' ≡ c → m' ≡ m → all ≡ Broken why c' m'
  stops-there why c' m' some is same_core same =
      left ∙ rounds-more n i ds c m some ∙ ap (λ t. after_turn t c m (rounds (n - 1) i ds)) is ∙ ap₂ (Broken why) (sym same_core) (sym same)

  -- no round is left
  pub none-left : n ≤ 0 → all ≡ Completed c m
  unfolding rounds
  none-left none = let zero_left : n ≡ 0 = omega arith in left ∙ ap (λ k. rounds k i ds c m) zero_left

-- the one round of an instruction that reaches no memory
pub rounds-inside : (n : ℕ) (i : Insn) (ds : Descs) (c d : Core) (m : Memory) → n ≡ 1 → round i ds c [] ≡ Ends d None false → rounds n i ds c m ≡ Completed d m
unfolding rounds asks
rounds-inside n i ds c d m one is =
    ap (λ k. rounds k i ds c m) one ∙ ap (λ a. after_turn (answered m (λ bytes. asks 1 m (round i ds c) (bytes ∷ [])) a) c m (rounds 0 i ds)) is

-- a transfer that reaches no memory
pub turn-inside : (ask : List (List ℕ) → Ask ℕ) (c : Core) (m : Memory) (to : ℕ) → ask [] ≡ Ends c None to → turn m ask ≡ Ended c m to
unfolding asks
turn-inside ask c m to is = ap (answered m (λ bytes. asks 1 m ask (bytes ∷ []))) is
