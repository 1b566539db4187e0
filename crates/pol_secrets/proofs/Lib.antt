mod ExactFacts
