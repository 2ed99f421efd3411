mod TreeSets
