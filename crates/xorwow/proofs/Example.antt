-- The first numbers from the state that the paper starts its generator with, worked out apart from these definitions.
-- Assumes nothing.
use Rattle.std.proofs.Common.{◌≡◌, [], ◌∷◌, refl}
use Rattle.xorwow.specs.Xorwow.{step, stream}

first_numbers :
    stream 5 (record { x = 123_456_789; y = 362_436_069; z = 521_288_629; w = 88_675_123; v = 5_783_321; counter = 6_615_241 })
    ≡ 246_875_399 ∷ 3_690_007_200 ∷ 1_264_581_005 ∷ 3_906_711_041 ∷ 1_866_187_943 ∷ []
unfolding stream step
first_numbers = refl
