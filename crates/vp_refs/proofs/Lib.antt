mod OneLemmas
