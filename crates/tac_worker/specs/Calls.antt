-- The calls of a caller that many connections share, each for one of them.
use Rattle.std.specs.Prelude.{◌≡◌, ℕ, List, [], ◌∷◌, ◌++◌, map, ◌==◌, if◌then◌else◌}
use Rattle.tac_worker.specs.Worked.{Exchange, AreAllMade}

-- a call that was made for the connection of this number
pub record Call : Type 0 where
  pub number : ℕ
  pub exchange : Exchange

abbrev pub exchanges : List Call → List Exchange
exchanges calls = map (λ call. call.exchange) calls

-- those for the connection of this number, in their order
abbrev pub calls_of : ℕ → List Call → List Exchange
calls_of number [] = []
calls_of number (call ∷ calls) =
    if call.number == number
    then call.exchange ∷ calls_of number calls
    else calls_of number calls

-- by a caller that makes exchanges by such steps, and rests so
module _ {C : Type 0} (makes : C → Exchange → C → Type 0) (rests : C → C → Type 0) where
  -- it made these calls, and no others
  abbrev pub AreCalled : C → List Call → C → Type 0
  AreCalled was calls now = AreAllMade makes rests was (exchanges calls) now

  -- it was this one after the first of these calls
  pub record WasAfter (first : C) (calls : List Call) (who : C) : Type 0 where
    pub before : List Call
    pub later : List Call
    pub parts : calls ≡ before ++ later
    pub made : AreCalled first before who
