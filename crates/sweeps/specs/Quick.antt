-- One number rounded without a branch, and whether it was one for which that is right. Assumes nothing.
use Rattle.std.specs.Prelude.{ℕ, ◌+◌, ◌-◌, ◌*◌, ◌/◌, ◌%◌, ◌^◌, cond, bit_or, nat_le}
use Rattle.patterns.specs.Patterns.{sign, mag}
use Rattle.magnitudes.specs.declared.Mode.{Mode}
use Rattle.magnitudes.specs.Increments.{increment}
use Rattle.sweeps.specs.declared.Limits.{Limits}
use Rattle.sweeps.specs.declared.Swept.{Swept}

-- a difference within a word: its top bit is set where a magnitude is less than another
unfoldable pub less : ℕ → ℕ → ℕ
less a b = (a + (2 ^ 64 - b)) % 2 ^ 64

-- what the mode adds to x below place d, where the last kept digit is the pattern's own
unfoldable pub added : Mode → ℕ → ℕ → ℕ → ℕ
added mode word x d = increment mode (sign x) (x / 2 ^ d) (2 ^ d) word

-- x with the increment added below place d, and the digits there cleared
unfoldable pub cleared : Mode → ℕ → ℕ → ℕ → ℕ
cleared mode word x d = (x + added mode word x d) % 2 ^ 64 / 2 ^ d * 2 ^ d

-- where nothing can come out as T
unfoldable pub plainly : Limits → Mode → ℕ → ℕ → Swept
plainly l mode word x =
    record {
      answer = cleared mode word x (l.cut % 64);
      unfit = bit_or (less (mag x) l.least) (less l.most (mag x));
    }

-- where what comes out as T is moved on to infinity
unfoldable pub cappedly : Limits → Mode → ℕ → ℕ → Swept
cappedly l mode word x =
    let d = l.cut % 64 in
    let high = (mag x + l.room) % 2 ^ 64 in
    record {
      answer = (cleared mode word x d + cond (nat_le (2 ^ 63) ((high + added mode word x d) % 2 ^ 64)) l.gap 0) % 2 ^ 64;
      unfit = bit_or (less (mag x) l.least) high;
    }
