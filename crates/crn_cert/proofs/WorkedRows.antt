-- Small networks worked by hand: discordances, shelves and signals over a shape, with values that do not come from the program.
use Rattle.crn_cert.proofs.Prelude.{[], ◌∷◌, refl, inl, inr, arith, pos, negsuc, Some, ints, Plus, Minus, reaction_system, IsDiscordant, Shape, IsSignal, plain_table}
use Rattle.crn_cert.proofs.Networks.{branching, chain, edelstein}

-- both reactions at once keep A, and A grows with them
branching-discordant : IsDiscordant (reaction_system branching) (plain_table branching) (pos 1 ∷ pos 1 ∷ []) (pos 1 ∷ pos 0 ∷ [])
branching-discordant = record {
  long_alpha = refl;
  long_weights = refl;
  balanced = (refl, tt);
  some = inl (inl (omega (arith, ints)));
  goes = (record { up = λ h. inl (omega (arith, ints)); down = λ h. absurd (omega (arith, ints, h)); still = λ h. absurd (omega (arith, ints, h)) }, (record { up = λ h. inl (omega (arith, ints)); down = λ h. absurd (omega (arith, ints, h)); still = λ h. absurd (omega (arith, ints, h)) }, tt));
}

chain-discordant : IsDiscordant (reaction_system chain) (plain_table chain) (pos 1 ∷ pos 2 ∷ pos 0 ∷ negsuc 0 ∷ []) (pos 0 ∷ pos 1 ∷ pos 0 ∷ pos 0 ∷ [])
chain-discordant = record {
  long_alpha = refl;
  long_weights = refl;
  balanced = (refl, (refl, tt));
  some = inl (inl (omega (arith, ints)));
  goes = (record { up = λ h. inl (omega (arith, ints)); down = λ h. absurd (omega (arith, ints, h)); still = λ h. absurd (omega (arith, ints, h)) }, (record { up = λ h. inl (omega (arith, ints)); down = λ h. absurd (omega (arith, ints, h)); still = λ h. absurd (omega (arith, ints, h)) }, (record { up = λ h. absurd (omega (arith, ints, h)); down = λ h. absurd (omega (arith, ints, h)); still = λ h. inr (inl (omega (arith, ints)), inr (inl (omega (arith, ints)))) }, (record { up = λ h. absurd (omega (arith, ints, h)); down = λ h. inr (inl (omega (arith, ints))); still = λ h. absurd (omega (arith, ints, h)) }, tt))));
}

edelstein-discordant : IsDiscordant (reaction_system edelstein) (plain_table edelstein) (pos 3 ∷ pos 1 ∷ pos 3 ∷ pos 1 ∷ pos 1 ∷ negsuc 0 ∷ []) (pos 1 ∷ pos 0 ∷ pos 0 ∷ pos 0 ∷ pos 0 ∷ pos 1 ∷ [])
edelstein-discordant = record {
  long_alpha = refl;
  long_weights = refl;
  balanced = (refl, (refl, (refl, tt)));
  some = inl (inl (omega (arith, ints)));
  goes = (record { up = λ h. inl (omega (arith, ints)); down = λ h. absurd (omega (arith, ints, h)); still = λ h. absurd (omega (arith, ints, h)) }, (record { up = λ h. inl (omega (arith, ints)); down = λ h. absurd (omega (arith, ints, h)); still = λ h. absurd (omega (arith, ints, h)) }, (record { up = λ h. inl (omega (arith, ints)); down = λ h. absurd (omega (arith, ints, h)); still = λ h. absurd (omega (arith, ints, h)) }, (record { up = λ h. inr (inr (inl (omega (arith, ints)))); down = λ h. absurd (omega (arith, ints, h)); still = λ h. absurd (omega (arith, ints, h)) }, (record { up = λ h. inr (inr (inl (omega (arith, ints)))); down = λ h. absurd (omega (arith, ints, h)); still = λ h. absurd (omega (arith, ints, h)) }, (record { up = λ h. absurd (omega (arith, ints, h)); down = λ h. inr (inl (omega (arith, ints))); still = λ h. absurd (omega (arith, ints, h)) }, tt))))));
}

-- the shape of the network for the negative -1 1 -1 0 1 of its confluence vector
abbrev edelstein_shape : Shape
edelstein_shape = record {
  species = 3;
  complexes = edelstein.complexes;
  tops = Some 0 ∷ Some 0 ∷ Some 1 ∷ Some 1 ∷ Some 1 ∷ [];
  count = 2;
  pairs = record { low = 0; high = 1; top = 0; sum = pos 1 } ∷ record { low = 2; high = 3; top = 1; sum = pos 1 } ∷ record { low = 3; high = 4; top = 1; sum = pos 1 } ∷ [];
}

edelstein-signal : IsSignal edelstein_shape (reaction_system edelstein) (Plus ∷ Minus ∷ []) (pos 6 ∷ negsuc 1 ∷ pos 2 ∷ []) (pos 5) (pos 1 ∷ pos 0 ∷ pos 0 ∷ pos 0 ∷ pos 0 ∷ pos 1 ∷ [])
edelstein-signal = record {
  long_shelves = refl;
  long_mu = refl;
  long_weights = refl;
  lies = (omega (arith, ints), (omega (arith, ints), (omega (arith, ints), (omega (arith, ints), (omega (arith, ints), tt)))));
  over_pairs = (omega (arith, ints), (omega (arith, ints), (omega (arith, ints), tt)));
  some = (0, λ e. omega (arith, ints, e));
  same = refl;
}

-- at the level 6 the complex A is not above it
edelstein-level : IsSignal edelstein_shape (reaction_system edelstein) (Plus ∷ Minus ∷ []) (pos 6 ∷ negsuc 1 ∷ pos 2 ∷ []) (pos 6) (pos 1 ∷ pos 0 ∷ pos 0 ∷ pos 0 ∷ pos 0 ∷ pos 1 ∷ []) → ⊥
edelstein-level s = omega (arith, ints, s.lies.0)
