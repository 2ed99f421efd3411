mod StarParts
