-- What it is for a promise to fix its outcome. The prover makes a `Post` of each function's `ensures`: what is promised of the
-- lifetimes, the arguments, the result and the lent parameters as the function returns. Assumes nothing.
use Rattle.std.specs.Prelude.{◌≡◌}

-- one answer: two results that the promise allows for the same arguments are equal (lent parameters are not compared)
abbrev pub OneAnswer : {Lifetimes : Type 0} {Arguments Result Lent : Lifetimes → Type 0}
    → ((κs : Lifetimes) → Arguments κs → Result κs → Lent κs → Type 0) → Type 0
OneAnswer {Lifetimes} {Arguments} {Result} {Lent} Post =
    (κs : Lifetimes) (a : Arguments κs) (y z : Result κs) (s t : Lent κs) → Post κs a y s → Post κs a z t → y ≡ z

-- one outcome: so are they, and so is what `found` reads in the lent parameters as the function returns
abbrev pub OneOutcome : {Lifetimes : Type 0} {Arguments Result Lent : Lifetimes → Type 0} {Found : Type 0}
    → ((κs : Lifetimes) → Arguments κs → Result κs → Lent κs → Type 0) → ((κs : Lifetimes) → Lent κs → Found) → Type 0
OneOutcome {Lifetimes} {Arguments} {Result} {Lent} Post found =
    (κs : Lifetimes) (a : Arguments κs) (y z : Result κs) (s t : Lent κs) → Post κs a y s → Post κs a z t
    → (y ≡ z) × (found κs s ≡ found κs t)
